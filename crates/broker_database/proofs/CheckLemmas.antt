-- What is read of the nodes of a CHECK.
use Rattle.std.proofs.Common.{◌<◌, ◌≤◌, ◌≡◌, ◌↔◌, ℕ, ℤ, pos, suc, zero, List, [], ◌∷◌, length, arith, Option, Some, None, IsSomeAnd, slice_get, slice_index_or, refl, sym, ap, subst, ◌∙◌}
use Rattle.sqlite.specs.{declared.types.Value.TheVariants.{Null, Int}, Collation.TheVariants.{Binary}}
use Rattle.sqlite_schema.specs.{declared.code.Op.{Op}, Code.{op_term, term_to, term_in}}
use Rattle.sqlite_sql.specs.{Term.{Term, lit, col, op2}, declared.ops.BinaryOp.TheVariants.{Compare}, declared.ops.CompareOp.TheVariants.{Eq}}
use Rattle.broker_tables.specs.Schema.{is_number, is_truth}
use Rattle.broker_database.specs.Catalog.{IsEqualOp, IsTruthOp}
use Rattle.sqlite_schema.specs.declared.code.Op.TheVariants as op

-- a node that is slice_get-of_not_null is read, and Null if slice_get-of_not_null is none
slice_index_or-found : (ops : List Op) (at : ℕ) (o : Op) → slice_get ops at ≡ Some o → slice_index_or ops at (op.Literal Null) ≡ o
slice_index_or-found [] at o is = absurd cc
slice_index_or-found (x ∷ ops) zero o is = cc
slice_index_or-found (x ∷ ops) (suc at) o is = slice_index_or-found ops at o is

slice_index_or-lost : (ops : List Op) (at : ℕ) → slice_get ops at ≡ None → slice_index_or ops at (op.Literal Null) ≡ op.Literal Null
slice_index_or-lost [] at is = refl
slice_index_or-lost (x ∷ ops) zero is = absurd cc
slice_index_or-lost (x ∷ ops) (suc at) is = slice_index_or-lost ops at is

-- a term that isn't Null is read of a node that is slice_get-of_not_null
slice_get-of_not_null : (ops : List Op) (at : ℕ) (o : Op) → ¬ (o ≡ op.Literal Null) → slice_index_or ops at (op.Literal Null) ≡ o → slice_get ops at ≡ Some o
slice_get-of_not_null [] at o some is = absurd (some (sym is))
slice_get-of_not_null (x ∷ ops) zero o some is = ap Some is
slice_get-of_not_null (x ∷ ops) (suc at) o some is = slice_get-of_not_null ops at o some is

op_term-column : (below : ℕ → Term) (o : Op) (place : ℕ) → op_term below o ≡ col 1 place → o ≡ op.Column 1 place
op_term-column below (op.Literal v) place is = absurd cc
op_term-column below (op.Column s a) place is = cc
op_term-column below (op.Unary f a) place is = absurd cc
op_term-column below (op.Binary f a b) place is = absurd cc
op_term-column below (op.Case t a b) place is = absurd cc

op_term-number : (below : ℕ → Term) (o : Op) (n : ℤ) → op_term below o ≡ lit (Int n) → o ≡ op.Literal (Int n)
op_term-number below (op.Literal v) n is = cc
op_term-number below (op.Column s a) n is = absurd cc
op_term-number below (op.Unary f a) n is = absurd cc
op_term-number below (op.Binary f a b) n is = absurd cc
op_term-number below (op.Case t a b) n is = absurd cc

abbrev equal : ℕ → ℤ → Term
equal place n = op2 (Compare Eq Binary) (col 1 place) (lit (Int n))

module _ (ops : List Op) where
  term_to-column : (d at place : ℕ) → slice_get ops at ≡ Some (op.Column 1 place) ↔ (term_to ops (suc d) at ≡ col 1 place)
  term_to-column d at place =
      (λ is. ap (op_term (term_to ops d)) (slice_index_or-found ops at _ is), λ is. slice_get-of_not_null ops at _ (λ null. absurd cc) (op_term-column (term_to ops d) _ place is))

  term_to-number : (d at : ℕ) (n : ℤ) → slice_get ops at ≡ Some (op.Literal (Int n)) ↔ (term_to ops (suc d) at ≡ lit (Int n))
  term_to-number d at n =
      (λ is. ap (op_term (term_to ops d)) (slice_index_or-found ops at _ is), λ is. slice_get-of_not_null ops at _ (λ null. absurd cc) (op_term-number (term_to ops d) _ n is))

  -- at this node: the column is the number
  term_to-equal : (d at place : ℕ) (n : ℤ) → IsSomeAnd (slice_get ops at) (IsEqualOp ops place n) → term_to ops (suc (suc d)) at ≡ equal place n
  term_to-equal d at place n = go (slice_get ops at) refl
    where
      of_op : (o : Op) → IsEqualOp ops place n o → op_term (term_to ops (suc d)) o ≡ equal place n
      of_op (op.Binary f a b) is = let first = (term_to-column d a place).0 is.1 in let second = (term_to-number d b n).0 is.2 in let which = is.0 in cc
      of_op (op.Literal v) is = absurd is
      of_op (op.Column s a) is = absurd is
      of_op (op.Unary f a) is = absurd is
      of_op (op.Case t a b) is = absurd is

      go : (x : Option Op) → slice_get ops at ≡ x → IsSomeAnd x (IsEqualOp ops place n) → term_to ops (suc (suc d)) at ≡ equal place n
      go None e is = absurd is
      go (Some o) e is = ap (op_term (term_to ops (suc d))) (slice_index_or-found ops at o e) ∙ of_op o is

  IsEqualOp-of_term : (d at place : ℕ) (n : ℤ) → term_to ops (suc (suc d)) at ≡ equal place n → IsSomeAnd (slice_get ops at) (IsEqualOp ops place n)
  IsEqualOp-of_term d at place n = go (slice_get ops at) refl
    where
      of_op : (o : Op) → op_term (term_to ops (suc d)) o ≡ equal place n → IsEqualOp ops place n o
      of_op (op.Binary f a b) is = (cc, (term_to-column d a place).1 cc, (term_to-number d b n).1 cc)
      of_op (op.Literal v) is = absurd cc
      of_op (op.Column s a) is = absurd cc
      of_op (op.Unary f a) is = absurd cc
      of_op (op.Case t a b) is = absurd cc

      go : (x : Option Op) → slice_get ops at ≡ x → term_to ops (suc (suc d)) at ≡ equal place n → IsSomeAnd x (IsEqualOp ops place n)
      go None e is = absurd (let null = ap (op_term (term_to ops (suc d))) (slice_index_or-lost ops at e) in cc)
      go (Some o) e is = of_op o (ap (op_term (term_to ops (suc d))) (sym (slice_index_or-found ops at o e)) ∙ is)

  -- at this node: the column is 0 or 1
  term_to-truth : (d at place : ℕ) → IsSomeAnd (slice_get ops at) (IsTruthOp ops place) → term_to ops (suc (suc (suc d))) at ≡ is_truth place
  term_to-truth d at place = go (slice_get ops at) refl
    where
      of_op : (o : Op) → IsTruthOp ops place o → op_term (term_to ops (suc (suc d))) o ≡ is_truth place
      of_op (op.Binary f a b) is = let first = term_to-equal d a place (pos 0) is.1 in let second = term_to-equal d b place (pos 1) is.2 in let which = is.0 in cc
      of_op (op.Literal v) is = absurd is
      of_op (op.Column s a) is = absurd is
      of_op (op.Unary f a) is = absurd is
      of_op (op.Case t a b) is = absurd is

      go : (x : Option Op) → slice_get ops at ≡ x → IsSomeAnd x (IsTruthOp ops place) → term_to ops (suc (suc (suc d))) at ≡ is_truth place
      go None e is = absurd is
      go (Some o) e is = ap (op_term (term_to ops (suc (suc d)))) (slice_index_or-found ops at o e) ∙ of_op o is

  IsTruthOp-of_term : (d at place : ℕ) → term_to ops (suc (suc (suc d))) at ≡ is_truth place → IsSomeAnd (slice_get ops at) (IsTruthOp ops place)
  IsTruthOp-of_term d at place = go (slice_get ops at) refl
    where
      of_op : (o : Op) → op_term (term_to ops (suc (suc d))) o ≡ is_truth place → IsTruthOp ops place o
      of_op (op.Binary f a b) is = (cc, IsEqualOp-of_term d a place (pos 0) cc, IsEqualOp-of_term d b place (pos 1) cc)
      of_op (op.Literal v) is = absurd cc
      of_op (op.Column s a) is = absurd cc
      of_op (op.Unary f a) is = absurd cc
      of_op (op.Case t a b) is = absurd cc

      go : (x : Option Op) → slice_get ops at ≡ x → term_to ops (suc (suc (suc d))) at ≡ is_truth place → IsSomeAnd x (IsTruthOp ops place)
      go None e is = absurd (let null = ap (op_term (term_to ops (suc (suc d)))) (slice_index_or-lost ops at e) in cc)
      go (Some o) e is = of_op o (ap (op_term (term_to ops (suc (suc d)))) (sym (slice_index_or-found ops at o e)) ∙ is)

  -- to a lesser depth neither is read
  term_to-not_equal_at_1 : (at place : ℕ) (n : ℤ) → ¬ (term_to ops 1 at ≡ equal place n)
  term_to-not_equal_at_1 at place n = of_op (slice_index_or ops at (op.Literal Null))
    where
      of_op : (o : Op) → ¬ (op_term (term_to ops 0) o ≡ equal place n)
      of_op (op.Binary f a b) is = absurd cc
      of_op (op.Literal v) is = absurd cc
      of_op (op.Column s a) is = absurd cc
      of_op (op.Unary f a) is = absurd cc
      of_op (op.Case t a b) is = absurd cc

  term_to-not_truth_at_1 : (at place : ℕ) → ¬ (term_to ops 1 at ≡ is_truth place)
  term_to-not_truth_at_1 at place = of_op (slice_index_or ops at (op.Literal Null))
    where
      of_op : (o : Op) → ¬ (op_term (term_to ops 0) o ≡ is_truth place)
      of_op (op.Binary f a b) is = absurd cc
      of_op (op.Literal v) is = absurd cc
      of_op (op.Column s a) is = absurd cc
      of_op (op.Unary f a) is = absurd cc
      of_op (op.Case t a b) is = absurd cc

  term_to-not_truth_at_2 : (at place : ℕ) → ¬ (term_to ops 2 at ≡ is_truth place)
  term_to-not_truth_at_2 at place = of_op (slice_index_or ops at (op.Literal Null))
    where
      of_op : (o : Op) → ¬ (op_term (term_to ops 1) o ≡ is_truth place)
      of_op (op.Binary f a b) is = term_to-not_equal_at_1 a place (pos 0) cc
      of_op (op.Literal v) is = absurd cc
      of_op (op.Column s a) is = absurd cc
      of_op (op.Unary f a) is = absurd cc
      of_op (op.Case t a b) is = absurd cc

le-two_more : (n : ℕ) → 2 ≤ n → (d : ℕ) × (n ≡ suc (suc d))
le-two_more zero is = absurd (omega (arith, is))
le-two_more (suc zero) is = absurd (omega (arith, is))
le-two_more (suc (suc d)) is = (d, refl)

le-three_more : (n : ℕ) → 3 ≤ n → (d : ℕ) × (n ≡ suc (suc (suc d)))
le-three_more zero is = absurd (omega (arith, is))
le-three_more (suc zero) is = absurd (omega (arith, is))
le-three_more (suc (suc zero)) is = absurd (omega (arith, is))
le-three_more (suc (suc (suc d))) is = (d, refl)

-- as a CHECK of these nodes
pub term_in-is_number : (ops : List Op) (root place : ℕ) → 2 ≤ length ops
    → IsSomeAnd (slice_get ops root) (IsEqualOp ops place (pos 1)) ↔ (term_in ops root ≡ is_number place 1)
term_in-is_number ops root place long =
    let deep = le-two_more (length ops) long in
    subst (λ (k : ℕ). IsSomeAnd (slice_get ops root) (IsEqualOp ops place (pos 1)) ↔ (term_to ops k root ≡ is_number place 1)) (sym deep.1)
    (term_to-equal ops deep.0 root place (pos 1), IsEqualOp-of_term ops deep.0 root place (pos 1))

pub term_in-is_truth : (ops : List Op) (root place : ℕ) → 3 ≤ length ops
    → IsSomeAnd (slice_get ops root) (IsTruthOp ops place) ↔ (term_in ops root ≡ is_truth place)
term_in-is_truth ops root place long =
    let deep = le-three_more (length ops) long in
    subst (λ (k : ℕ). IsSomeAnd (slice_get ops root) (IsTruthOp ops place) ↔ (term_to ops k root ≡ is_truth place)) (sym deep.1)
    (term_to-truth ops deep.0 root place, IsTruthOp-of_term ops deep.0 root place)

pub term_in-not_truth_short : (ops : List Op) (root place : ℕ) → length ops < 3 → ¬ (term_in ops root ≡ is_truth place)
term_in-not_truth_short ops root place short = go (length ops) short
  where
    go : (k : ℕ) → k < 3 → ¬ (term_to ops k root ≡ is_truth place)
    go zero short is = absurd cc
    go (suc zero) short is = term_to-not_truth_at_1 ops root place is
    go (suc (suc zero)) short is = term_to-not_truth_at_2 ops root place is
    go (suc (suc (suc k))) short is = absurd (omega (arith, short))
