-- sound contents stay sound
use Rattle.std.specs.{Prelude.{Option, Some, None}, List.{list_any, position_or_len}}
use Rattle.std.proofs.Common.{◌≡◌, ◌⊎◌, ◌+◌, ◌-◌, ◌==◌, ◌∷◌, [], ◌++◌, ℕ, zero, suc, List, length, slice_get, cond, not, refl, sym, ◌∙◌, ap, subst, inl, inr, Bool, true, false, ◌||◌, if◌then◌else◌, arith}
use Rattle.std.proofs.{lemmas.Bool.{ne_eqb, both_ways}, lemmas.List.Elements.{Contains-push_cases}, lemmas.Map.Keys.{any_passes_from_place}}
use Rattle.broker_core.specs.{Laws.{OpeningIsSound, ContentsStay}, declared.command.Command.{Command}, declared.command.Version.{Version}}
use Rattle.broker_core.specs.{Text.{Text, same_text, same_version, same_pair}, State.{State, Verification}, Request.{consumer_version}, Change.{content_number}}
use Rattle.broker_core.specs.{Machine.{Primitives}, Machine.Reading.{IsPact}, Contents.{IsContentOf, HasSoundContents, ReadsAgain}}
use Rattle.broker_core.proofs.{Lists.{Contains-empty, Some-injective}, Judgement.{same_text-equal, same_text-refl, same_pair-contract_equal, put_at-cases}}
use Rattle.broker_core.proofs.{Effects.{Change, Step-keeps, contents_with, with_contract, with_result}, Effects.Change.{contract, claim, check}}

-- ---- texts and their numbers

abbrev text_in : List Text → ℕ → Option Text
text_in texts number = if number == 0 then None else slice_get texts (number - 1)

abbrev number_in : List Text → Text → ℕ
number_in texts text = position_or_len (same_text text) texts + 1

text_in-next : (texts : List Text) (i : ℕ) → text_in texts (i + 1) ≡ slice_get texts i
text_in-next texts i = ap (λ b. cond b None (slice_get texts (i + 1 - 1))) (ne_eqb (i + 1) 0 (λ e. omega (arith, e))) ∙ ap (slice_get texts) (let e : i + 1 - 1 ≡ i = omega arith in e)

-- the place of a text with a number
text_in-place : (texts : List Text) (n : ℕ) (x : Text) → text_in texts n ≡ Some x → (i : ℕ) × (n ≡ i + 1) × (slice_get texts i ≡ Some x)
text_in-place texts zero x h = absurd cc
text_in-place texts (suc i) x h =
    let next : suc i ≡ i + 1 = omega arith in
    (i, next, sym (text_in-next texts i) ∙ ap (text_in texts) (sym next) ∙ h)

text_in-of_slice_get : (texts : List Text) (n i : ℕ) (x : Text) → n ≡ i + 1 → slice_get texts i ≡ Some x → text_in texts n ≡ Some x
text_in-of_slice_get texts n i x e h = ap (text_in texts) e ∙ text_in-next texts i ∙ h

-- the list has the text at its first place of that text
position_or_len-found_text : (texts : List Text) (text : Text) → list_any (same_text text) texts ≡ true → slice_get texts (position_or_len (same_text text) texts) ≡ Some text
position_or_len-found_text [] text e = absurd cc
position_or_len-found_text (t ∷ texts) text e = by_test (same_text text t) refl e (position_or_len-found_text texts text)
  where
    by_test : (b : Bool) → same_text text t ≡ b → (b || list_any (same_text text) texts) ≡ true
        → (list_any (same_text text) texts ≡ true → slice_get texts (position_or_len (same_text text) texts) ≡ Some text)
        → slice_get (t ∷ texts) (cond (not b) (1 + position_or_len (same_text text) texts) 0) ≡ Some text
    by_test true same h more = ap Some (sym (same_text-equal text t same))
    by_test false other h more = ap (slice_get (t ∷ texts)) (let e : 1 + position_or_len (same_text text) texts ≡ suc (position_or_len (same_text text) texts) = omega arith in e) ∙ more h

-- a text that isn't there would come next
position_or_len-no_text : (texts : List Text) (text : Text) → list_any (same_text text) texts ≡ false → position_or_len (same_text text) texts ≡ length texts
position_or_len-no_text [] text free = refl
position_or_len-no_text (t ∷ texts) text free = by_test (same_text text t) refl free (position_or_len-no_text texts text)
  where
    by_test : (b : Bool) → same_text text t ≡ b → (b || list_any (same_text text) texts) ≡ false → (list_any (same_text text) texts ≡ false → position_or_len (same_text text) texts ≡ length texts)
        → position_or_len (same_text text) (t ∷ texts) ≡ length (t ∷ texts)
    by_test true e h more = absurd cc
    by_test false e h more = rw e (omega (arith, more h))

slice_get-push_before : (texts : List Text) (new : Text) (i : ℕ) (x : Text) → slice_get texts i ≡ Some x → slice_get (texts ++ new ∷ []) i ≡ Some x
slice_get-push_before [] new i x h = absurd cc
slice_get-push_before (t ∷ texts) new zero x h = h
slice_get-push_before (t ∷ texts) new (suc i) x h = slice_get-push_before texts new i x h

slice_get-push_last : (texts : List Text) (new : Text) → slice_get (texts ++ new ∷ []) (length texts) ≡ Some new
slice_get-push_last [] new = refl
slice_get-push_last (t ∷ texts) new = slice_get-push_last texts new

slice_get-push_cases : (texts : List Text) (new : Text) (i : ℕ) (x : Text) → slice_get (texts ++ new ∷ []) i ≡ Some x → (slice_get texts i ≡ Some x) ⊎ ((i ≡ length texts) × (x ≡ new))
slice_get-push_cases [] new zero x h = inr (refl, sym (Some-injective new x h))
slice_get-push_cases [] new (suc i) x h = absurd cc
slice_get-push_cases (t ∷ texts) new zero x h = inl h
slice_get-push_cases (t ∷ texts) new (suc i) x h = elim (slice_get-push_cases texts new i x h) [ inl old ↦ inl old | inr last ↦ inr (ap suc last.0, last.1) ]

-- a number and its text, which is the new one and wasn't there
abbrev IsNew : List Text → Text → ℕ → ℕ → Text → Type 0
IsNew old text number n x = (n ≡ number) × (x ≡ text) × ((k : ℕ) → ¬ (text_in old k ≡ Some text))

-- these texts and this one, which has this number
record Added (old new : List Text) (text : Text) (number : ℕ) : Type 0 where
  pub there : text_in new number ≡ Some text
  pub kept : (n : ℕ) (x : Text) → text_in old n ≡ Some x → text_in new n ≡ Some x
  pub either : (n : ℕ) (x : Text) → text_in new n ≡ Some x → (text_in old n ≡ Some x) ⊎ IsNew old text number n x

Added-contents_with : (texts : List Text) (text : Text) → Added texts (contents_with texts text) text (number_in texts text)
Added-contents_with texts text = by_test (list_any (same_text text) texts) refl
  where
    by_test : (b : Bool) → list_any (same_text text) texts ≡ b → Added texts (if b then texts else texts ++ text ∷ []) text (number_in texts text)
    by_test true known = record {
      there = text_in-of_slice_get texts _ (position_or_len (same_text text) texts) text refl (position_or_len-found_text texts text known);
      kept = λ n x h. h;
      either = λ n x h. inl h;
    }
    by_test false free = record {
      there = text_in-of_slice_get (texts ++ text ∷ []) _ (length texts) text (ap (λ i. i + 1) (position_or_len-no_text texts text free)) (slice_get-push_last texts text);
      kept = λ n x h. let p = text_in-place texts n x h in text_in-of_slice_get (texts ++ text ∷ []) n p.0 x p.1 (slice_get-push_before texts text p.0 x p.2);
      either = λ n x h. let p = text_in-place (texts ++ text ∷ []) n x h in elim (slice_get-push_cases texts text p.0 x p.2) [
        | inl old ↦ inl (text_in-of_slice_get texts n p.0 x p.1 old)
        | inr last ↦ inr (
          p.1 ∙ ap (λ i. i + 1) (last.0 ∙ sym (position_or_len-no_text texts text free)),
          last.1,
          λ k there.
              let q = text_in-place texts k text there in
              both_ways _ free (any_passes_from_place (same_text text) texts q.0 text q.2 (same_text-refl text)),
        )
      ];
    }

-- ---- what a change leaves

module _ (parts : Primitives) (again : ReadsAgain parts) (s : State) (sound : HasSoundContents parts s) where
  -- one text more, which has this number and is a pact's, and one contract more, which has it
  HasSoundContents-with_contract : (v : Version) (provider text : Text) → parts.Reads text (IsPact v.pacticipant provider text)
      → HasSoundContents parts (with_contract s v provider text)
  HasSoundContents-with_contract v provider text reads = record {
    apart = λ m n x a b. both m n x (more.either m x a) (more.either n x b);
    normal = λ n x h. normal_of n x (more.either n x h);
    contracts =
        λ w p content h. contract_of w p content
        (put_at-cases (same_pair same_version same_text) same_pair-contract_equal s.contracts (v, provider) (Some (content_number s text)) (w, p) (Some content) h);
    results = λ r c. let old = sound.results r c in (old.0, still r.content old.0 r.version.pacticipant old.1);
  }
    where
      more : Added s.contents (contents_with s.contents text) text (content_number s text)
      more = Added-contents_with s.contents text

      both : (m n : ℕ) (x : Text) → (text_in s.contents m ≡ Some x) ⊎ IsNew s.contents text (content_number s text) m x
          → (text_in s.contents n ≡ Some x) ⊎ IsNew s.contents text (content_number s text) n x → m ≡ n
      both m n x (inl a) (inl b) = sound.apart m n x a b
      both m n x (inl a) (inr b) = absurd (b.2 m (a ∙ ap Some b.1))
      both m n x (inr a) (inl b) = absurd (a.2 n (b ∙ ap Some a.1))
      both m n x (inr a) (inr b) = a.0 ∙ sym b.0

      normal_of : (n : ℕ) (x : Text) → (text_in s.contents n ≡ Some x) ⊎ IsNew s.contents text (content_number s text) n x
          → (c : Text) × (p : Text) × parts.Reads x (IsPact c p x)
      normal_of n x (inl old) = sound.normal n x old
      normal_of n x (inr new) = (v.pacticipant, provider, subst (λ (y : Text). parts.Reads y (IsPact v.pacticipant provider y)) (sym new.1) reads)

      still : (content : ℕ) (c p : Text) → IsContentOf parts s content c p → IsContentOf parts (with_contract s v provider text) content c p
      still content c p h = (h.0, more.kept content h.0 h.1, h.2)

      contract_of : (w : Version) (p : Text) (content : ℕ)
          → ((◌≡◌ {A = Version × Text} (w, p) (v, provider)) × (Some (content_number s text) ≡ Some content)) ⊎ (s.contracts (w, p) ≡ Some content)
          → IsContentOf parts (with_contract s v provider text) content w.pacticipant p
      contract_of w p content (inl new) = (
        text,
        ap (text_in (contents_with s.contents text)) (sym (Some-injective (content_number s text) content new.1)) ∙ more.there,
        subst (λ (k : Version × Text). parts.Reads text (IsPact k.0.pacticipant k.1 text)) (sym new.0) reads,
      )
      contract_of w p content (inr old) = still content w.pacticipant p (sound.contracts w p content old)

  -- the same texts and contracts, and one result more, of a contract's content
  HasSoundContents-with_result : (r : Verification) (consumer : Text) → IsContentOf parts s r.content consumer r.version.pacticipant → HasSoundContents parts (with_result s r)
  HasSoundContents-with_result r consumer of = record {
    apart = sound.apart;
    normal = sound.normal;
    contracts = sound.contracts;
    results = λ q c. elim (Contains-push_cases s.results r q c) [
      | inl old ↦ sound.results q old
      | inr new ↦ subst (λ (x : Verification). (c : Text) × IsContentOf parts s x.content c x.version.pacticipant) new (consumer, of)
    ];
  }

  HasSoundContents-after_change : (c : Command) (t : State) → Change parts s c t → HasSoundContents parts t
  HasSoundContents-after_change _ _ (contract path file text new reads) =
      HasSoundContents-with_contract (consumer_version path) path.provider text (again file path.consumer path.provider text reads)
  HasSoundContents-after_change _ _ (claim path r success content row new) = HasSoundContents-with_result _ path.consumer (sound.contracts (consumer_version path) path.provider content row)
  HasSoundContents-after_change _ _ (check path r replies content failing row new) =
      HasSoundContents-with_result _ path.consumer (sound.contracts (consumer_version path) path.provider content row)
  HasSoundContents-after_change _ _ _ = record { apart = sound.apart; normal = sound.normal; contracts = sound.contracts; results = sound.results }

-- sound contents stay sound after each step
pub ContentsStay-holds : (parts : Primitives) → ReadsAgain parts → ContentsStay parts
ContentsStay-holds parts again s token c out sound step = Step-keeps parts s c (HasSoundContents parts) sound (λ t change. HasSoundContents-after_change parts again s sound c t change) token out step

-- the contents of the first state are sound
pub OpeningIsSound-holds : (parts : Primitives) → OpeningIsSound parts
OpeningIsSound-holds parts office = record {
  apart = λ m n x a b. absurd (nothing m x a);
  normal = λ n x h. absurd (nothing n x h);
  contracts = λ v p content h. absurd (cc);
  results = λ r c. absurd (Contains-empty r c);
}
  where
    nothing : (n : ℕ) (x : Text) → text_in [] n ≡ Some x → ⊥
    nothing n x h = let p = text_in-place [] n x h in let wrong : None ≡ Some x = p.2 in cc
