-- The orders of keys: each is total, and equal keys are the same.
use Rattle.std.specs.{Ordering.{int_cmp}, Cmp.{IsTotalOrder, int_cmp_total}, Cmp.Lexicographic.{nat_list_cmp_total}}
use Rattle.std.{specs.FinMap.{int_cmp-IsAntisymmetric, IsAntisymmetric}, proofs.lemmas.Map.Lookups.{exact_pairs}}
use Rattle.table_access.{specs.Columns.{text_cmp, pair_cmp, by_both}, proofs.Keys.{by_both-IsTotalOrder}}
-- texts that tie in their order are the same
pub use Rattle.table_access.proofs.Keys.{text_cmp-antisymmetric}

-- the order of pairs of texts is total
pub pair_cmp-IsTotalOrder : IsTotalOrder pair_cmp
pair_cmp-IsTotalOrder = by_both-IsTotalOrder nat_list_cmp_total nat_list_cmp_total

-- pairs of texts that tie in their order are the same
pub pair_cmp-IsAntisymmetric : IsAntisymmetric pair_cmp
pair_cmp-IsAntisymmetric = exact_pairs text_cmp text_cmp text_cmp-antisymmetric text_cmp-antisymmetric

-- a number and a text
pub by_both-total_int_text : IsTotalOrder (by_both int_cmp text_cmp)
by_both-total_int_text = by_both-IsTotalOrder int_cmp_total nat_list_cmp_total

-- pairs of a number and a text that tie in their order are the same
pub by_both-exact_int_text : IsAntisymmetric (by_both int_cmp text_cmp)
by_both-exact_int_text = exact_pairs int_cmp text_cmp int_cmp-IsAntisymmetric text_cmp-antisymmetric

-- two numbers
pub by_both-total_int_int : IsTotalOrder (by_both int_cmp int_cmp)
by_both-total_int_int = by_both-IsTotalOrder int_cmp_total int_cmp_total

-- pairs of numbers that tie in their order are the same
pub by_both-exact_int_int : IsAntisymmetric (by_both int_cmp int_cmp)
by_both-exact_int_int = exact_pairs int_cmp int_cmp int_cmp-IsAntisymmetric int_cmp-IsAntisymmetric

-- a text and a number
pub by_both-total_text_int : IsTotalOrder (by_both text_cmp int_cmp)
by_both-total_text_int = by_both-IsTotalOrder nat_list_cmp_total int_cmp_total

-- pairs of a text and a number that tie in their order are the same
pub by_both-exact_text_int : IsAntisymmetric (by_both text_cmp int_cmp)
by_both-exact_text_int = exact_pairs text_cmp int_cmp text_cmp-antisymmetric int_cmp-IsAntisymmetric

-- three texts
pub by_both-total_texts : IsTotalOrder (by_both text_cmp (by_both text_cmp text_cmp))
by_both-total_texts = by_both-IsTotalOrder nat_list_cmp_total pair_cmp-IsTotalOrder

-- triples of texts that tie in their order are the same
pub by_both-exact_texts : IsAntisymmetric (by_both text_cmp (by_both text_cmp text_cmp))
by_both-exact_texts = exact_pairs text_cmp pair_cmp text_cmp-antisymmetric pair_cmp-IsAntisymmetric
