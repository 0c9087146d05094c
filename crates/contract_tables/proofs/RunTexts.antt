-- The texts in the column of a run: a name, or the text for no run in that row.
use Rattle.std.specs.{Prelude.{IfSome, unwrap_or}, Cmp.Lexicographic.{texts_ties}}
use Rattle.std.proofs.Common.{◌≡◌, ◌==◌, ◌<◌, ◌≤◌, ◌^◌, ℕ, ℤ, pos, List, [], ◌∷◌, length, decimal, Bool, true, false, cond, Option, Some, None, refl, sym, ap, ◌∙◌, arith}
use Rattle.std.proofs.{lemmas.Bool.{and_parts, false_from_ne_true, leb-true, ne_eqb}, lemmas.Fmt.{decimal_injective, length-decimal-le}}
use Rattle.sqlite.specs.{declared.types.Value.{Value}, declared.types.Value.TheVariants.{Text}, Order.{value_cmp}, Collation.TheVariants.{Binary}}
use Rattle.sqlite_sql.specs.{declared.ops.BinaryOp.TheVariants.{Compare}, declared.ops.CompareOp.TheVariants.{Eq}, Ops.{binary, is_true}}
use Rattle.table_access.proofs.Values.{binary-Eq_Text}
use Rattle.broker_names.specs.Name.{IsName, is_name, are_name_bytes, is_name_byte}
use Rattle.broker_core.{specs.{Text.{same_text}, Change.{is_text}}, proofs.Judgement.{same_text-equal, same_text-refl}}
use Rattle.broker_tables.specs.Rows.{no_run, begins_with_tab, run_in}
use Rattle.contract_tables.specs.Verified.{run_text}

eqb-above_tab : (b : ℕ) → 32 ≤ b → (b == 9) ≡ false
eqb-above_tab b low = ne_eqb b 9 (λ same. omega (arith, low, same))

begins_with_tab-name : (t : List ℕ) → IsName t → begins_with_tab t ≡ false
unfolding is_name
begins_with_tab-name [] name = refl
begins_with_tab-name (b ∷ bs) name =
    let bytes : are_name_bytes (b ∷ bs) ≡ true = (and_parts _ _ name).1 in
    let first : is_name_byte b ≡ true = (and_parts _ _ bytes).0 in
    eqb-above_tab b (leb-true 32 b (and_parts _ _ first).0)

-- whether a column that was read has this run
abbrev pub has_run : List ℕ → Option (Option (List ℕ)) → Bool
has_run u None = false
has_run u (Some run) = is_text u run

-- a column has a run in SQL if and only if it is read as that run
pub run_in-Eq_Text : (number : ℤ) (v : Value) (u : List ℕ) → IsName u → is_true (binary (Compare Eq Binary) v (Text u)) ≡ has_run u (run_in number v)
unfolding binary value_cmp
run_in-Eq_Text number (Text t) u name = binary-Eq_Text t u ∙ sym (texts_ties t u) ∙ by (begins_with_tab t) refl
  where
    neither : (b : Bool) → has_run u (cond b (Some None) None) ≡ false
    neither true = refl
    neither false = refl

    by : (b : Bool) → begins_with_tab t ≡ b → same_text t u ≡ has_run u (cond b (cond (same_text t (no_run number)) (Some None) None) (Some (Some t)))
    by false e = refl
    by true e = false_from_ne_true _ (λ same. absurd (let clash : true ≡ false = sym e ∙ ap begins_with_tab (same_text-equal t u same) ∙ begins_with_tab-name u name in cc)) ∙ sym (neither (same_text t (no_run number)))
run_in-Eq_Text number _ u name = refl

-- the text for no run of another row says nothing of a run
pub run_in-no_run_of_another : (m n : ℕ) → m < 2 ^ 64 → n < 2 ^ 64 → (m ≡ n → ⊥) → run_in (pos m) (Text (no_run (pos n))) ≡ None
run_in-no_run_of_another m n few many other =
    ap (λ b. cond b (Some None) None) (false_from_ne_true _ (λ same.
    let digits : decimal n ≡ decimal m = let e = same_text-equal (no_run (pos n)) (no_run (pos m)) same in cc in
    other (sym (decimal_injective n m many few digits))))

-- what is stored of a run is read as the run
pub run_in-run_text : (number : ℕ) (run : Option (List ℕ)) → IfSome run IsName → run_in (pos number) (Text (run_text number run)) ≡ Some run
run_in-run_text number None name = ap (λ b. cond b (Some None) None) (same_text-refl (no_run (pos number)))
run_in-run_text number (Some t) name = ap (λ b. cond b (cond (same_text t (no_run (pos number))) (Some None) None) (Some (Some t))) (begins_with_tab-name t name)

-- and isn't longer than the run, but for a few digits
pub length-run_text-le : (number : ℕ) (run : Option (List ℕ)) → number < 2 ^ 32 → length (unwrap_or run []) ≤ 10 ^ 7 → length (run_text number run) ≤ 10 ^ 7
length-run_text-le number None few short = omega (arith, length-decimal-le 10 number (omega arith) (omega (arith, few)) (omega (arith, few)))
length-run_text-le number (Some t) few short = short
