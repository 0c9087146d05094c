-- A normal text reads as its pact, and a text is read in one way, unless a pattern is refused.
use Rattle.std.specs.List.{AllByRecursion}
use Rattle.std.proofs.Common.{◌≡◌, ◌⊎◌, ◌↔◌, ◌<◌, inl, inr, ⊎_elim, ℕ, ◌+◌, List, [], ◌∷◌, Option, Some, None, Result, Ok, Err, refl, sym, ap, ◌∙◌, subst, arith}
use Rattle.serde_json.specs.Data.{Data}
use Rattle.broker_core.specs.{declared.command.Command.TheVariants.{PutPact, PostReplies}, declared.command.FormFault.{FormFault}, Text.{Text}}
use Rattle.broker_core.specs.{Contents.{ReadsAgain}, Laws.{ReadsRefusal}, Machine.{Reading}, Machine.Reading.{IsPact, IsRefused}}
use Rattle.command_facts.specs.{Readings.{reading_of, Reads, is_refusal, replies_fault, ReadsReplies, Compares, Fails}, Laws.{AreReadOnce}}
use Rattle.command_facts.specs.Primitives.{broker_primitives}
use Rattle.pact_rules.specs.{Lists.{IsIn}, Reading.{just, Follows, ◌>>=◌, EachRead}, declared.rule_fault.RuleFault.TheVariants.{Pattern}}
use Rattle.pact_file.specs.{Headers.{HeadersRead}, Normal.{Normal, IsRefusal}, Pact.{Interaction, Pact, normal_text}, Words.{number_text}}
use Rattle.pact_file.specs.{declared.fault.PactFault.{PactFault}, declared.fault.PactFault.TheVariants.{Rules}, declared.fault.Part.TheVariants.{Headers}}
use Rattle.pact_file.proofs.{Again.{Normal-normal_text, Normal-unique_pact}, Agreement.{IsDefinite-Normal}, HeaderSets.{HasHeaders-unique}}
use Rattle.pact_file.proofs.{SetLemmas.{AllByRecursion-member}, Steps.{Ok-injective}}
use Rattle.reply_check.specs.{Recorded.{Reply}, ReplyParts.{file_of, items_of, at, parts_at}, Replies.{ReplyRead, Apart, RepliesRead}}
use Rattle.reply_check.specs.{Verdicts.{IsAscending, AreFailing}, declared.fault.RepliesFault.{RepliesFault}}
use Rattle.broker_core.specs.declared.command.FormFault.TheVariants as fault

-- ---- a normal text reads again

Reads-of_normal_text : (file consumer provider text : Text) (answer : Result Pact PactFault) → Normal file answer → IsPact consumer provider text ≡ reading_of answer → Reads text (IsPact consumer provider text)
Reads-of_normal_text file consumer provider text (Ok p) normal is =
    let same : text ≡ normal_text p = text_same consumer provider text p is in
    subst (λ t. Reads t (IsPact consumer provider text)) (sym same) (Ok p, Normal-normal_text file p normal, is) where
      text_same : (consumer provider text : Text) (p : Pact) → IsPact consumer provider text ≡ reading_of (Ok p) → text ≡ normal_text p
      text_same consumer provider text p is = cc
Reads-of_normal_text file consumer provider text (Err e) normal is = absurd cc

-- with this broker's own reading of files, the normal text of a pact reads as the same pact
pub ReadsAgain-broker_primitives : ReadsAgain broker_primitives
ReadsAgain-broker_primitives file consumer provider text reads = Reads-of_normal_text file consumer provider text reads.0 reads.1 reads.2

-- ---- a pact file is read in one way, unless a pattern is refused

ReadsRefusal-of_refusal : (reading : Reading) (answer : Result Pact PactFault) → reading ≡ reading_of answer → IsRefusal answer → ReadsRefusal is_refusal reading
ReadsRefusal-of_refusal reading answer is (i, refused) =
    let returned : IsRefused (fault.Pact (number_text (Rules i Pattern))) ≡ reading = sym (is ∙ ap reading_of refused) in
    subst (ReadsRefusal is_refusal) returned refl

Reads-unique : (file : Text) (a b : Reading) → Reads file a → Reads file b → (a ≡ b) ⊎ (ReadsRefusal is_refusal a ⊎ ReadsRefusal is_refusal b)
Reads-unique file a b h k =
    ⊎_elim (λ same. inl (h.2 ∙ ap reading_of same ∙ sym k.2))
    (λ refused. inr (⊎_elim (λ r. inl (ReadsRefusal-of_refusal a h.0 h.2 r)) (λ r. inr (ReadsRefusal-of_refusal b k.0 k.2 r)) refused))
    (IsDefinite-Normal file h.0 k.0 h.1 k.1)

-- ---- replies are read in one way

abbrev IsOne : {A : Type 0} → (Result A RepliesFault → Type 0) → Type 0
IsOne {A} reads = (r s : Result A RepliesFault) → reads r → reads s → r ≡ s

just-unique : {A : Type 0} (read : Result A RepliesFault) → IsOne (just read)
just-unique read r s h k = sym h ∙ k

Follows-unique : {A B : Type 0} (next : A → Result B RepliesFault → Type 0) → ((x : A) → IsOne (next x)) → (a : Result A RepliesFault) (r s : Result B RepliesFault) → Follows a next r → Follows a next s → r ≡ s
Follows-unique next one (Ok x) r s h k = one x r s h k
Follows-unique next one (Err e) r s h k = h ∙ sym k

bind-unique : {A B : Type 0} (first : Result A RepliesFault → Type 0) (next : A → Result B RepliesFault → Type 0) → IsOne first → ((x : A) → IsOne (next x)) → IsOne (first >>= next)
bind-unique first next one then r s h k = Follows-unique next then h.0 r s h.2 (subst (λ a. Follows a next s) (sym (one h.0 k.0 h.1 k.1)) k.2)

HeadersRead-unique : (i : ℕ) (response : Data) → IsOne (HeadersRead (at i Headers) response)
HeadersRead-unique i response (Ok xs) (Ok ys) h k = ap Ok (HasHeaders-unique response xs ys h k)
HeadersRead-unique i response (Ok xs) (Err e) h k = absurd (k.0 xs h)
HeadersRead-unique i response (Err e) (Ok ys) h k = absurd (h.0 ys k)
HeadersRead-unique i response (Err e) (Err f) h k = ap Err (h.1 ∙ sym k.1)

ReplyRead-unique : (i : ℕ) (d : Data) → IsOne (ReplyRead i d)
unfolding ReplyRead
ReplyRead-unique i d =
    bind-unique (just (parts_at i d)) _ (just-unique (parts_at i d)) (λ x.
    bind-unique (HeadersRead (at i Headers) x.response) _ (HeadersRead-unique i x.response) (λ headers. just-unique (Ok x)))

EachRead-unique : (i : ℕ) (ds : List Data) → IsOne (EachRead ReplyRead i ds)
unfolding EachRead
EachRead-unique i [] = just-unique (Ok [])
EachRead-unique i (d ∷ ds) =
    bind-unique (ReplyRead i d) _ (ReplyRead-unique i d) (λ x.
    bind-unique (EachRead ReplyRead (i + 1) ds) _ (EachRead-unique (i + 1) ds) (λ xs. just-unique (Ok (x ∷ xs))))

Apart-unique : (found : List Reply) → IsOne (Apart found)
Apart-unique found (Ok xs) (Ok ys) h k = ap Ok (h.1 ∙ sym k.1)
Apart-unique found (Ok xs) (Err e) h k = absurd (h.0 k.0)
Apart-unique found (Err e) (Ok ys) h k = absurd (k.0 h.0)
Apart-unique found (Err e) (Err f) h k = ap Err (h.1 ∙ sym k.1)

pub RepliesRead-unique : (bytes : Text) → IsOne (RepliesRead bytes)
unfolding RepliesRead
RepliesRead-unique bytes =
    bind-unique (just (file_of bytes)) _ (just-unique (file_of bytes)) (λ file.
    bind-unique (just (items_of file)) _ (just-unique (items_of file)) (λ items.
    bind-unique (EachRead ReplyRead 0 items) _ (EachRead-unique 0 items) (λ found. Apart-unique found)))

ReadsReplies-unique : (body : Text) (a b : Option FormFault) → ReadsReplies body a → ReadsReplies body b → a ≡ b
ReadsReplies-unique body a b h k = h.2 ∙ ap replies_fault (RepliesRead-unique body h.0 k.0 h.1 k.1) ∙ sym k.2

-- ---- the places are one list

abbrev AreSame : List ℕ → List ℕ → Type 0
AreSame xs ys = (i : ℕ) → IsIn i xs ↔ IsIn i ys

AreSame-tail : (x y : ℕ) (xs ys : List ℕ) → x ≡ y → AllByRecursion (λ j. x < j) xs → AreSame (x ∷ xs) (y ∷ ys) → (i : ℕ) → IsIn i xs → IsIn i ys
AreSame-tail x y xs ys e above same i h =
    ⊎_elim (λ (is : i ≡ y). let low : x < i = AllByRecursion-member (λ j. x < j) xs i above h in absurd (let equal : i ≡ x = is ∙ sym e in omega (arith, low, equal)))
    (λ later. later) ((same i).0 (inr h))

IsAscending-unique : (xs ys : List ℕ) → IsAscending xs → IsAscending ys → AreSame xs ys → xs ≡ ys
IsAscending-unique [] [] h k same = refl
IsAscending-unique [] (y ∷ ys) h k same = absurd ((same y).1 (inl refl))
IsAscending-unique (x ∷ xs) [] h k same = absurd ((same x).0 (inl refl))
IsAscending-unique (x ∷ xs) (y ∷ ys) h k same =
    let first : x ≡ y = ⊎_elim (λ e. e) (λ (later : IsIn x ys). ⊎_elim (λ (e : y ≡ x). sym e) (λ (further : IsIn y xs).
    let low : y < x = AllByRecursion-member (λ j. y < j) ys x k.0 later in
    let high : x < y = AllByRecursion-member (λ j. x < j) xs y h.0 further in
    absurd (omega (arith, low, high))) ((same y).1 (inl refl))) ((same x).0 (inl refl)) in
    let rest : xs ≡ ys = IsAscending-unique xs ys h.1 k.1 (λ i. (AreSame-tail x y xs ys first h.0 same i, AreSame-tail y x ys xs (sym first) k.0 (λ j. ((same j).1, (same j).0)) i)) in
    ap (λ z. z ∷ xs) first ∙ ap (λ zs. y ∷ zs) rest

AreFailing-unique : (interactions : List Interaction) (replies : List Reply) (xs ys : List ℕ) → AreFailing interactions replies xs → AreFailing interactions replies ys → xs ≡ ys
AreFailing-unique interactions replies xs ys h k =
    IsAscending-unique xs ys h.ascending k.ascending (λ i. (λ x. (k.failing i).1 ((h.failing i).0 x), λ y. (h.failing i).1 ((k.failing i).0 y)))

Compares-unique : (interactions : List Interaction) (replies : List Reply) (a b : Option (List ℕ)) → Compares interactions replies a → Compares interactions replies b → a ≡ b
Compares-unique interactions replies None None h k = refl
Compares-unique interactions replies None (Some ys) h k = absurd (h k.0)
Compares-unique interactions replies (Some xs) None h k = absurd (k h.0)
Compares-unique interactions replies (Some xs) (Some ys) h k = ap Some (AreFailing-unique interactions replies xs ys h.1 k.1)

Fails-unique : (body text : Text) (a b : Option (List ℕ)) → Fails text body a → Fails text body b → a ≡ b
Fails-unique body text a b (rs, read_rs, (p, normal_p, h)) (qs, read_qs, (q, normal_q, k)) =
    let replies : qs ≡ rs = Ok-injective _ _ (RepliesRead-unique body (Ok qs) (Ok rs) read_qs read_rs) in
    let pact : q ≡ p = Normal-unique_pact text q p normal_q normal_p in
    Compares-unique p.interactions rs a b h (subst (λ (z : Pact). Compares z.interactions rs b) pact (subst (λ zs. Compares q.interactions zs b) replies k))

pub AreReadOnce-holds : AreReadOnce
AreReadOnce-holds (PutPact path file) = Reads-unique file
AreReadOnce-holds (PostReplies path report replies) = (ReadsReplies-unique replies, Fails-unique replies)
AreReadOnce-holds _ = tt
