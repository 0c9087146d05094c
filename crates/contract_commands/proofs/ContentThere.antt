-- The content of each contract has a text, as the table of contracts REFERENCES that of contents.
use Rattle.std.specs.{Prelude.{option_and_then, option_map, Result, Ok, Err}, List.{enumerate_from}}
use Rattle.std.proofs.Common.{◌≡◌, ◌==◌, ◌+◌, ◌-◌, ◌<◌, ◌≤◌, inl, inr, ℕ, zero, suc, ℤ, pos, List, [], ◌∷◌, map, length, false, cond, get_or, slice_get, Option, Some, None, refl, sym, ap, ◌∙◌, arith}
use Rattle.std.proofs.{lemmas.Bool.Decides.{nat_tests}, lemmas.List.{length-map}, lemmas.Option.{slice_get-get_or, slice_get_within}}
use Rattle.sqlite.specs.{Order.{Row}, Effect.{Database}}
use Rattle.sqlite_rules.specs.Lists.{Has}
use Rattle.table_access.{specs.Columns.{text, whole_at}, proofs.Maps.{find-has_row}}
use Rattle.broker_core.specs.{Text.{Text}, State.{State}, Change.{text_of}, Request.{consumer_version}, declared.answer.Answer.{Answer}}
use Rattle.broker_core.specs.{declared.command.PactPath.{PactPath}, declared.command.Version.{Version}, declared.policy.Caller.{Caller}}
use Rattle.broker_core.specs.declared.policy.Rule.{Rule}
use Rattle.broker_tables.specs.{Schema.{in_contents, in_contracts}, Holds.{Holds, with_digest}, Numbers.{number_of}}
use Rattle.broker_tables.proofs.{Orders.{by_both-total_int_text, by_both-exact_int_text}, Placed.{contracts, at_contracts, listed}}
use Rattle.broker_tables.proofs.References.{references-content}
use Rattle.contract_tables.proofs.ContractRows.{key, content_at, contents}
use Rattle.contract_commands.specs.{BranchPact.{ReachesBranch}, Pacts.{HasContent, Reaches, HasReachedContent}}

-- rows that are numbered from m on have the numbers from m to the last
within : {X : Type 0} (f : Row → X) (rows : List Row) (xs : List X) (m n : ℕ) → map {B = ℤ × X} (λ r. (whole_at 0 r, f r)) rows ≡ map (λ e. (pos e.0, e.1)) (enumerate_from m xs) → (r : Row) → Has rows r → whole_at 0 r ≡ pos n → (m ≤ n) × (n < m + length xs)
within f [] xs m n is r has at = absurd has
within f (y ∷ rows) [] m n is r has at = absurd (let e = is in cc)
within {X} f (y ∷ rows) (x ∷ xs) m n is r (inl same) at =
    let ints : pos m ≡ pos n = sym (ap (whole_at 0) same ∙ ap (λ (l : List (ℤ × X)). first l) is) ∙ at in
    let nats : m ≡ n = cc in
    (omega (arith, nats), omega (arith, nats))
  where
    first : List (ℤ × X) → ℤ
    first [] = pos 0
    first (p ∷ ps) = p.0
within {X} f (y ∷ rows) (x ∷ xs) m n is r (inr more) at =
    let it = within f rows xs (m + 1) n (ap (λ (l : List (ℤ × X)). rest l) is) r more at in
    (omega (arith, it.0), omega (arith, it.1))
  where
    rest : List (ℤ × X) → List (ℤ × X)
    rest [] = []
    rest (p ∷ ps) = ps

positive-not_zero : (n : ℕ) → 1 ≤ n → (n == 0) ≡ false
positive-not_zero n low = grind (arith, nat_tests)

text_of-slice_get : (s : State) (n : ℕ) → 1 ≤ n → text_of s n ≡ slice_get s.contents (n - 1)
text_of-slice_get s n low = ap (λ b. cond b None (slice_get s.contents (n - 1))) (positive-not_zero n low)

-- a number from 1 to the count is that of a text
HasContent-of_bounds : (s : State) (n : ℕ) → 1 ≤ n → n ≤ length s.contents → HasContent s n
HasContent-of_bounds s n low high =
    let place : n - 1 < length s.contents = omega (arith, low, high) in
    (get_or s.contents (n - 1) [], text_of-slice_get s n low ∙ slice_get-get_or s.contents (n - 1) [] place)

-- and only such a number is one
pub HasContent-bounds : (s : State) (n : ℕ) → HasContent s n → (1 ≤ n) × (n ≤ length s.contents)
HasContent-bounds s zero has = absurd cc
HasContent-bounds s (suc n) has = let within = slice_get_within s.contents (suc n - 1) has.0 (sym (text_of-slice_get s (suc n) (omega arith)) ∙ has.1) in (omega arith, omega (arith, within))

module _ (db : Database) (s : State) (held : Holds db s) where
  contracts-has_row : (v : Version) (p : Text) (n : ℕ) → s.contracts (v, p) ≡ Some n → (r : Row) × Has (db.trees in_contracts.tree) r × (whole_at in_contracts.content r ≡ pos n)
  contracts-has_row v p n is = by_number (number_of s.versions v) (held.contracts v p ∙ ap (option_map pos) is) where
    by_number : (o : Option ℕ) → option_and_then (λ k. content_at (db.trees in_contracts.tree) k p) o ≡ Some (pos n) → (r : Row) × Has (db.trees in_contracts.tree) r × (whole_at in_contracts.content r ≡ pos n)
    by_number None e = absurd cc
    by_number (Some k) e = let it = find-has_row by_both-total_int_text by_both-exact_int_text key (whole_at in_contracts.content) (pos k, p) (pos n) (db.trees in_contracts.tree) e in (it.0, it.1, it.3)

  -- the content of a contract has a text
  pub contracts-has_content : (v : Version) (p : Text) (n : ℕ) → s.contracts (v, p) ≡ Some n → HasContent s n
  contracts-has_content v p n is =
      let row = contracts-has_row v p n is in
      let x = references-content db held.broker contracts (listed at_contracts db held.broker) in_contracts.content (inr (inr (inl refl))) row.0 row.1 (contents db held.broker row.0 row.1) in
      let it = within (λ r. (text in_contents.digest r, text in_contents.body r)) (db.trees in_contents.tree) (map with_digest s.contents) 1 n held.contents x.0 x.1 (x.2 ∙ row.2) in
      HasContent-of_bounds s n it.0 (let same = length-map s.contents with_digest in omega (arith, it.1, same))

  -- so has that of one that was reached
  pub Reaches-has_content : (caller : Caller) (path : PactPath) (rule : Rule) (owned : List Text) (place : Result ℕ Answer) → Reaches s caller path rule owned place → HasReachedContent s place
  Reaches-has_content caller path rule owned (Ok content) reach = contracts-has_content (consumer_version path) path.provider content reach.0
  Reaches-has_content caller path rule owned (Err refusal) reach = tt

  pub ReachesBranch-has_content : (caller : Caller) (provider consumer branch : Text) (place : Result ℕ Answer) → ReachesBranch s caller provider consumer branch place → HasReachedContent s place
  ReachesBranch-has_content caller provider consumer branch (Ok content) reach = let it = reach.0 in contracts-has_content it.0 provider content it.2
  ReachesBranch-has_content caller provider consumer branch (Err refusal) reach = tt
