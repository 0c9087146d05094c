-- The compact text of a value is read as that value.
use Rattle.std.specs.{Prelude.{⊤}, Ordering.{nat_cmp, ordering_reverse}, Cmp.Lexicographic.{slice_cmp}}
use Rattle.std.proofs.Common.{◌≡◌, ℕ, suc, max, ◌≤◌, pos, negsuc, List, [], ◌++◌, false, Option, Some, option_map, option_and_then, Greater, refl, sym, ap, ap₂, ◌∙◌, arith, append-nil}
use Rattle.std.proofs.{lemmas.Cmp.{nat_list_cmp_total}, lemmas.Bool.{or_parts}}
use Rattle.json.{specs.{Token.{Token}, Lex.{tokens}}, proofs.{Printed.Tokens.{tokens-print}, Printed.Trees.{value-json_tokens, ArePrintable-json_tokens}}}
use Rattle.json.proofs.Printed.Decimals.{IsNumber-decimal, IsNumber-signed_decimal}
use Rattle.serde_json.specs.Data.{unsigned, negative, float, Data, number, array, object, Items, no_items, item, Members, no_members, member, put, depth, items_depth, members_depth}
use Rattle.serde_json.specs.Read.{of_json, of_items, of_members, max_depth, read}
use Rattle.serde_json.specs.Written.{outline, items_outline, members_outline, compact_text, has_float, items_have_float, members_have_float}
use Rattle.serde_json.proofs.{Numbers.{number_of-decimal, number_of-negative}, Texts.{print-outline}}
use Rattle.pact_rules.specs.Kept.{IsBelow, IsKept, AreKept, MembersAreKept}
use Rattle.json.specs.Json as json
use Rattle.json.specs.Tree as tree

-- ---- the members go in one after another

abbrev after : Members → Members → Members
after no_members more = more
after (member k d ms) more = member k d (after ms more)

after-no_members : (ms : Members) → after ms no_members ≡ ms
after-no_members no_members = refl
after-no_members (member k d ms) = ap (member k d) (after-no_members ms)

after-assoc : (a b c : Members) → after (after a b) c ≡ after a (after b c)
after-assoc no_members b c = refl
after-assoc (member k d ms) b c = ap (member k d) (after-assoc ms b c)

-- each key of the first is below each of the second
abbrev AreBelow : Members → Members → Type 0
AreBelow no_members more = ⊤
AreBelow (member k d ms) more = IsBelow k more × AreBelow ms more

put-last : (ms : Members) (k : List ℕ) (d : Data) (more : Members) → AreBelow ms (member k d more) → put k d ms ≡ after ms (member k d no_members)
put-last no_members k d more h = refl
put-last (member l e ms) k d more h =
    let above : slice_cmp nat_cmp k l ≡ Greater = nat_list_cmp_total.antisymm k l ∙ ap ordering_reverse h.0.0 in
    rw above (ap (member l e) (put-last ms k d more h.1))

AreBelow-after : (ms : Members) (k : List ℕ) (d : Data) (more : Members) → AreBelow ms (member k d more) → IsBelow k more → AreBelow (after ms (member k d no_members)) more
AreBelow-after no_members k d more h b = (b, tt)
AreBelow-after (member l e ms) k d more h b = (h.0.1, AreBelow-after ms k d more h.1 b)

-- the outline's numbers are numbers, it nests as deep, and it is read as the value
mutual
  of_json-outline : (d : Data) → IsKept d → has_float d ≡ false → tree.HasNumbers (outline d) × (tree.depth (outline d) ≡ depth d) × (of_json (outline d) ≡ Some d)
  of_json-outline (number (unsigned n)) h w = (IsNumber-decimal n h, refl, ap (option_map number) (number_of-decimal n h))
  of_json-outline (number (negative (pos n))) h w = absurd h
  of_json-outline (number (negative (negsuc n))) h w = (IsNumber-signed_decimal (negsuc n) h, refl, ap (option_map number) (number_of-negative n h))
  of_json-outline (number (float x)) h w = absurd cc
  of_json-outline (array ds) h w = let r = of_items-outline ds h w in (r.0, ap suc r.1, ap (option_map array) r.2)
  of_json-outline (object ms) h w = let r = of_members-outline ms h w in (r.0, ap suc r.1, ap (option_map object) (r.2 no_members tt))
  of_json-outline d h w = (tt, refl, refl)

  of_items-outline : (ds : Items) → AreKept ds → items_have_float ds ≡ false
      → tree.ItemsHaveNumbers (items_outline ds) × (tree.items_depth (items_outline ds) ≡ items_depth ds) × (of_items (items_outline ds) ≡ Some ds)
  of_items-outline no_items h w = (tt, refl, refl)
  of_items-outline (item d ds) h w =
      let p = or_parts (has_float d) _ w in
      let one = of_json-outline d h.0 p.0 in
      let others = of_items-outline ds h.1 p.1 in
      ((one.0, others.0), ap₂ max one.1 others.1, rw (one.2, others.2) refl)

  of_members-outline : (ms : Members) → MembersAreKept ms → members_have_float ms ≡ false
      → tree.MembersHaveNumbers (members_outline ms) × (tree.members_depth (members_outline ms) ≡ members_depth ms)
      × ((found : Members) → AreBelow found ms → of_members (members_outline ms) found ≡ Some (after found ms))
  of_members-outline no_members h w = (tt, refl, λ found b. ap Some (sym (after-no_members found)))
  of_members-outline (member k d ms) h w =
      let p = or_parts (has_float d) _ w in
      let one = of_json-outline d h.1 p.0 in
      let others = of_members-outline ms h.2 p.1 in (
        (one.0, others.0),
        ap₂ max one.1 others.1,
        λ found b. ap (option_and_then (λ e. of_members (members_outline ms) (put k e found))) one.2
            ∙ ap (of_members (members_outline ms)) (put-last found k d ms b)
            ∙ others.2 (after found (member k d no_members)) (AreBelow-after found k d ms b h.0)
            ∙ ap Some (after-assoc found (member k d no_members) ms),
      )

-- ---- the text

abbrev whole : Option (json.Json × List Token) → Option Data
whole o = option_and_then of_json (option_and_then (λ p. json.if_last p.0 p.1) o)

pub read-compact_text : (d : Data) → IsKept d → has_float d ≡ false → depth d ≤ max_depth → read (compact_text d) ≡ Some d
read-compact_text d h w shallow =
    let ts = tree.json_tokens (outline d) in
    let back = of_json-outline d h w in
    let same : tokens (compact_text d) ≡ ts ++ [] = ap tokens (sym (print-outline d)) ∙ tokens-print ts (ArePrintable-json_tokens (outline d) back.0) ∙ sym (append-nil ts) in
    ap whole (ap (json.value max_depth) same ∙ value-json_tokens (outline d) max_depth [] (omega (arith, back.1))) ∙ back.2

-- two values with one text are one
pub compact_text-injective : (a b : Data) → IsKept a → IsKept b → has_float a ≡ false → has_float b ≡ false → depth a ≤ max_depth → depth b ≤ max_depth → compact_text a ≡ compact_text b → a ≡ b
compact_text-injective a b h k v w p q e =
    let both : Some a ≡ Some b = sym (read-compact_text a h v p) ∙ ap read e ∙ read-compact_text b k w q in
    cc
