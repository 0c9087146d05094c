-- Replies that meet an interaction.
use Rattle.std.specs.{List.{list_any, find}, Str.{str_eq_ignore_ascii_case}}
use Rattle.std.proofs.Common.{◌≡◌, ◌↔◌, ℕ, Bool, true, false, cond, List, [], ◌∷◌, IsTrue, IfOk, codes, option_map, Option, Some, None, Result, Ok, Err, refl, sym, ap, ◌∙◌, subst, ⊎_elim}
use Rattle.std.proofs.{lemmas.Bool.{or_left, or_right}, lemmas.Option.{same_Some}}
use Rattle.serde_json.specs.Data.{Data}
use Rattle.pact_rules.specs.{Rules.{Rules, Entry, BodyRule, HeaderRule, is_regex, has_regex}, Tables.{header_entry}}
use Rattle.pact_rules.{specs.{declared.rule_fault.RuleFault.TheVariants.{Pattern}, Lists.{IsIn}}, proofs.ReadingLemmas.{IsReading-agree}}
use Rattle.pact_file.specs.{Headers.{HasHeaders}, Pact.{Header, Interaction}, Parts.{optional_at, status_in, body_in}, Rules.{TableRead, IsRulesOf}}
use Rattle.pact_file.proofs.{Steps.{Ok-injective, Ok-not_Err}, SetLemmas.{OneOf-member, AllByRecursion-member}}
use Rattle.reply_check.specs.{Bodies.{MeetsBody}, Meeting.{HasHeader, FitsHeader, Meets}, Recorded.{Reply, status_sent}, Sent.{IsFit, WasSent, WereSent}}
use Rattle.reply_check.proofs.Deciding.{OneOf-of_IsIn, AllByRecursion-of_IsIn}

-- ---- a response has one table of rules

TableRead-unique : (o : Option Data) (a b : Rules) → TableRead o (Ok a) → TableRead o (Ok b) → a ≡ b
TableRead-unique None a b h k = Ok-injective a b (h ∙ sym k)
TableRead-unique (Some d) a b h k = ⊎_elim (Ok-injective a b) (⊎_elim (Ok-not_Err a Pattern) (Ok-not_Err b Pattern)) (IsReading-agree d (Ok a) (Ok b) h k)

IsRulesOf-unique : (response : Data) (a b : Rules) → IsRulesOf response a → IsRulesOf response b → a ≡ b
unfolding IsRulesOf
IsRulesOf-unique response a b h k = TableRead-unique (optional_at (codes "matchingRules") response) a b h k

-- ---- patterns

abbrev any_regex : List HeaderRule → Bool
any_regex hs = list_any (λ (h : HeaderRule). list_any is_regex h.entry.matchers) hs

any_regex-of_find : (p : HeaderRule → Bool) (hs : List HeaderRule) (e : Entry) → Some e ≡ option_map (λ (h : HeaderRule). h.entry) (find p hs) → list_any is_regex e.matchers ≡ true → any_regex hs ≡ true
any_regex-of_find p [] e is r = absurd cc
any_regex-of_find p (x ∷ xs) e is r = by (p x) (λ later. any_regex-of_find p xs e later r) is where
  by : (b : Bool) → (Some e ≡ option_map (λ (h : HeaderRule). h.entry) (find p xs) → any_regex xs ≡ true) → Some e ≡ option_map (λ (h : HeaderRule). h.entry) (cond b (Some x) (find p xs))
      → any_regex (x ∷ xs) ≡ true
  by true again now = or_left (list_any is_regex x.entry.matchers) (any_regex xs) (ap (λ (e : Entry). list_any is_regex e.matchers) (sym (same_Some e x.entry now)) ∙ r)
  by false again later = or_right (list_any is_regex x.entry.matchers) (any_regex xs) (again later)

-- a header entry with a pattern is in the table
pub has_regex-header_entry : (rules : Rules) (name : List ℕ) (e : Entry) → Some e ≡ header_entry rules.headers name → list_any is_regex e.matchers ≡ true → has_regex rules ≡ true
has_regex-header_entry rules name e is r =
    or_right (list_any (λ (b : BodyRule). list_any is_regex b.entry.matchers) rules.body) (any_regex rules.headers)
    (any_regex-of_find (λ (h : HeaderRule). str_eq_ignore_ascii_case h.name name) rules.headers e is r)

-- ---- headers

-- one in the list is one of the response
HasHeader-of_listed : (response : Data) (list : List Header) (h : Header) → HasHeaders response list → IsIn h list → HasHeader response h
HasHeader-of_listed response list h has i = (has.found, has.read, has.ordered.known h i)

HasHeader-listed : (response : Data) (list : List Header) (h : Header) → HasHeaders response list → HasHeader response h → IsIn h list
HasHeader-listed response list h has (found, read, i) = has.ordered.kept h (subst (IsIn h) (same_Some found has.found (sym read ∙ has.read)) i)

WasSent-fits : (rules : Rules) (response : Data) (sent : List Header) (h : Header) → HasHeaders response sent → WasSent rules sent h
    → (value : List ℕ) × HasHeader response (record { name = h.name; value = value }) × FitsHeader rules h value
WasSent-fits rules response sent h has was =
    let found = OneOf-member (λ g. IsFit rules h g) sent was in
    let g : Header = found.0 in
    let same : g ≡ record { name = h.name; value = g.value } = λ i. record { name = found.2.0 i; value = g.value } in
    (g.value, subst (HasHeader response) same (HasHeader-of_listed response sent g has found.1), found.2.1)

WasSent-of_fitting : (rules : Rules) (response : Data) (sent : List Header) (h : Header) (value : List ℕ) → HasHeaders response sent → HasHeader response (record { name = h.name; value = value }) → FitsHeader rules h value
    → WasSent rules sent h
WasSent-of_fitting rules response sent h value has is fits =
    let g : Header = record { name = h.name; value = value } in
    OneOf-of_IsIn (λ g. IsFit rules h g) sent g (HasHeader-listed response sent g has is) (refl, fits)

-- ---- the whole

module _ (x : Interaction) (r : Reply) (rules : Rules) (expected sent : List Header) (has_rules : IsRulesOf x.response rules) (has_expected : HasHeaders x.response expected) (has_sent : HasHeaders r.response sent) where
  pub Meets-lacks_headers : ¬ WereSent rules sent expected → ¬ Meets x r
  Meets-lacks_headers lack whole =
      let same : whole.rules ≡ rules = IsRulesOf-unique x.response whole.rules rules whole.has_rules has_rules in
      lack (AllByRecursion-of_IsIn (λ h. WasSent rules sent h) expected (λ h i.
      let was = whole.headers h (HasHeader-of_listed x.response expected h has_expected i) in
      WasSent-of_fitting rules r.response sent h was.0 has_sent was.1 (subst (λ t. FitsHeader t h was.0) same was.2)))

  Meets-iff_MeetsBody : (n : ℕ) (b : Bool) → status_in x.response ≡ Some n → status_sent r.response ≡ Some n → WereSent rules sent expected
      → IsTrue b ↔ MeetsBody rules (body_in x.response) (body_in r.response) → IsTrue b ↔ Meets x r
  Meets-iff_MeetsBody n b e s were body = (
    λ h. record {
      status = (n, e, s);
      rules = rules;
      has_rules = has_rules;
      headers = λ h is. WasSent-fits rules r.response sent h has_sent (AllByRecursion-member (λ h. WasSent rules sent h) expected h were (HasHeader-listed x.response expected h has_expected is));
      body = body.0 h;
    },
    λ whole. body.1 (subst (λ t. MeetsBody t (body_in x.response) (body_in r.response)) (IsRulesOf-unique x.response whole.rules rules whole.has_rules has_rules) whole.body),
  )

  pub Meets-by_body : {E : Type 0} (m n : ℕ) (answer : Result Bool E) (b c : Option Data) → status_in x.response ≡ Some m → status_sent r.response ≡ Some n → m ≡ n → WereSent rules sent expected
      → b ≡ body_in x.response → c ≡ body_in r.response → IfOk answer (λ v. IsTrue v ↔ MeetsBody rules b c) → IfOk answer (λ v. IsTrue v ↔ Meets x r)
  Meets-by_body m n (Ok v) b c e s same were eb ec h =
      Meets-iff_MeetsBody n v (e ∙ ap (λ k. Some k) same) s were (subst (λ o. IsTrue v ↔ MeetsBody rules (body_in x.response) o) ec (subst (λ o. IsTrue v ↔ MeetsBody rules o c) eb h))
  Meets-by_body m n (Err f) b c e s same were eb ec h = tt
