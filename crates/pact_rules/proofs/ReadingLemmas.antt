-- What reading gives: a table, or a fault; and what two readings of one tree have to do with each other.
use Rattle.std.specs.{List.{filter}, Option.{ok_or}}
use Rattle.std.proofs.Common.{◌≡◌, ◌⊎◌, ℕ, List, Bool, true, false, not, Option, None, Some, Result, Ok, Err, refl, sym, ap, ◌∙◌, inl, inr, ⊎_elim}
use Rattle.pact_rules.specs.declared.rule_fault.RuleFault.TheVariants.{Form, OldRules, Pattern, Memory}
use Rattle.pact_rules.specs.{RuleReading.{FailsAs, has_old_key, categories_at, found_in, table_in, members_in, no_pattern, IsReading}, Outcome.{◌>>=◌, guard}}
use Rattle.pact_rules.specs.{declared.rule_fault.RuleFault.{RuleFault}, Matching.{is_pattern}}
use Rattle.pact_rules.specs.{Rules.{BodyRule, HeaderRule, Rules, no_rules, has_effect, has_regex}, Tables.{IsTable, effective}}
use Rattle.pact_rules.proofs.PatternLemmas.{Goes, HasRegex, Goes-table_in, no_pattern-is_pattern, Ok-apart_from_Err}
use Rattle.pact_paths.{specs.PathReading.{computed_path}, proofs.{ReadingLemmas.{ReadsPaths-computed_path, ReadsPaths-unique}, Checked.{Err-injective}}}
use Rattle.serde_json.specs.{Data.{Data, Members}, Find.{as_object}}

-- what is found is a table's, or it fails, by all patterns of the grammar or by none
IsReading-of_table_in : (tree : Data) (r : Result Rules RuleFault) → table_in computed_path is_pattern tree ≡ r → IsReading tree r
IsReading-of_table_in tree r h = (computed_path, is_pattern, ReadsPaths-computed_path, λ source e. e, h)

table_in-found_in_fault : (accepts : List ℕ → Bool) (tree : Data) (e : RuleFault) → found_in computed_path accepts tree ≡ Err e → table_in computed_path accepts tree ≡ Err e
table_in-found_in_fault accepts tree e h = ap (λ r. r >>= (λ f. Ok (effective f))) h

IsReading-found_in_fault : (tree : Data) (e : RuleFault) → found_in computed_path is_pattern tree ≡ Err e → IsReading tree (Err e)
IsReading-found_in_fault tree e h = IsReading-of_table_in tree (Err e) (table_in-found_in_fault is_pattern tree e h)

pub IsReading-of_found_in : (tree : Data) (found table : Rules) → found_in computed_path is_pattern tree ≡ Ok found → table.body ≡ filter (λ (r : BodyRule). has_effect r.entry) found.body → table.headers ≡ filter (λ (h : HeaderRule). has_effect h.entry) found.headers
    → IsReading tree (Ok table) × IsTable table
IsReading-of_found_in tree found table e body headers =
    let same : effective found ≡ table = ap (λ rs. record { body = rs; headers = (effective found).headers }) (sym body) ∙ ap (λ hs. record { body = table.body; headers = hs }) (sym headers) in
    let read : table_in computed_path is_pattern tree ≡ Ok table = ap (λ r. r >>= (λ f. Ok (effective f))) e ∙ ap Ok same in
    (IsReading-of_table_in tree (Ok table) read, ((Goes-table_in no_pattern no_pattern-is_pattern tree).0 table read).0)

pub IsReading-of_FailsAs : (tree : Data) (e : RuleFault) → FailsAs e (λ accepts. found_in computed_path accepts tree) → ¬ (e ≡ Memory) → IsReading tree (Err e)
IsReading-of_FailsAs tree Memory h ne = absurd (ne refl)
IsReading-of_FailsAs tree Pattern h ne = (computed_path, no_pattern, ReadsPaths-computed_path, no_pattern-is_pattern, table_in-found_in_fault no_pattern tree Pattern h)
IsReading-of_FailsAs tree e h ne = IsReading-found_in_fault tree e h

-- what is no object, or has rules of version 2, is read with the same fault
pub is_form_fault : (tree : Data) (e : RuleFault) → members_in tree ≡ Err e → IsReading tree (Err e)
is_form_fault tree e h = IsReading-found_in_fault tree e (by (as_object tree) h) where
  old : (b : Bool) (fs : Members) → (guard (not b) OldRules >>= (λ (u : Unit {0}). Ok fs)) ≡ Err e → (guard (not b) OldRules >>= (λ (u : Unit {0}). categories_at computed_path is_pattern no_rules fs)) ≡ Err e
  old true fs h = ap Err (Err-injective h)
  old false fs h = cc

  by : (o : Option Members) → (ok_or o Form >>= (λ fs. guard (not (has_old_key fs)) OldRules >>= (λ (u : Unit {0}). Ok fs))) ≡ Err e
      → (ok_or o Form >>= (λ fs. guard (not (has_old_key fs)) OldRules >>= (λ (u : Unit {0}). categories_at computed_path is_pattern no_rules fs))) ≡ Err e
  by None h = ap Err (Err-injective h)
  by (Some fs) h = old (has_old_key fs) fs h

-- ---- two readings of one tree

IsReading-is_table_in : (tree : Data) (r : Result Rules RuleFault) (h : IsReading tree r) → table_in computed_path h.1 tree ≡ r
IsReading-is_table_in tree r h = ap (λ paths. table_in paths h.1 tree) (sym (ReadsPaths-unique h.0 h.2)) ∙ h.4

Goes-same_or_Pattern : {A : Type 0} (P Q : A → Type 0) (all few : Result A RuleFault) → Goes P Q all few → (few ≡ all) ⊎ (few ≡ Err Pattern)
Goes-same_or_Pattern P Q (Ok x) few g = ⊎_elim (λ same. inl same) (λ met. inr met.0) (g.0 x refl).1
Goes-same_or_Pattern P Q (Err e) few g = g.1 e refl

-- each is what is read by all patterns of the grammar, or a pattern was refused
IsReading-table_in_or_Pattern : (tree : Data) (r : Result Rules RuleFault) → IsReading tree r → (r ≡ table_in computed_path is_pattern tree) ⊎ (r ≡ Err Pattern)
IsReading-table_in_or_Pattern tree r h =
    let is = sym (IsReading-is_table_in tree r h) in
    ⊎_elim (λ same. inl (is ∙ same)) (λ met. inr (is ∙ met)) (Goes-same_or_Pattern IsTable HasRegex (table_in computed_path is_pattern tree) (table_in computed_path h.1 tree) (Goes-table_in h.1 h.3 tree))

-- they are one, or a pattern was refused
pub IsReading-agree : (tree : Data) (r s : Result Rules RuleFault) → IsReading tree r → IsReading tree s → (r ≡ s) ⊎ ((r ≡ Err Pattern) ⊎ (s ≡ Err Pattern))
IsReading-agree tree r s h k = ⊎_elim (λ a. ⊎_elim (λ b. inl (a ∙ sym b)) (λ q. inr (inr q)) (IsReading-table_in_or_Pattern tree s k)) (λ p. inr (inl p)) (IsReading-table_in_or_Pattern tree r h)

-- a table is read, and a pattern may be refused: the table has one
pub has_regex-of_refusal : (tree : Data) (table : Rules) → IsReading tree (Ok table) → IsReading tree (Err Pattern) → has_regex table ≡ true
has_regex-of_refusal tree table h k =
    ⊎_elim (λ read. ⊎_elim (λ same. Ok-apart_from_Err (sym same ∙ IsReading-is_table_in tree (Err Pattern) k)) (λ met. met.1) ((Goes-table_in k.1 k.3 tree).0 table (sym read)).1) (λ fault. Ok-apart_from_Err fault) (IsReading-table_in_or_Pattern tree (Ok table) h)
