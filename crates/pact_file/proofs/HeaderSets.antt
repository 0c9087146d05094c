-- The headers that a response has.
use Rattle.std.{specs.Cmp.{IsTotalOrder}, proofs.{Common.{◌≡◌, List, sym, ◌∙◌, subst}, lemmas.Cmp.{nat_list_cmp_total, on_total}, lemmas.Option.{same_Some}}}
use Rattle.serde_json.specs.Data.{Data}
use Rattle.pact_file.{specs.{Headers.{HasHeaders}, Pact.{Header, name_cmp}, Sets.{IsSetInOrder}}, proofs.SetLemmas.{IsSetInOrder-unique}}

pub name_cmp-total : IsTotalOrder name_cmp
name_cmp-total = on_total (λ (h : Header). h.name) nat_list_cmp_total

-- a response has one list of headers
pub HasHeaders-unique : (response : Data) (xs ys : List Header) → HasHeaders response xs → HasHeaders response ys → xs ≡ ys
HasHeaders-unique response xs ys a b =
    let same : b.found ≡ a.found = same_Some _ _ (sym b.read ∙ a.read) in
    IsSetInOrder-unique name_cmp name_cmp-total a.found xs ys a.ordered (subst (λ found. IsSetInOrder name_cmp found ys) same b.ordered)
