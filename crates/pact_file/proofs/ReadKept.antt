-- What is read has whole numbers of 64 bits, and an object's keys in order, each once.
use Rattle.std.specs.{Ordering.{nat_cmp, match_ordering}, Cmp.Lexicographic.{slice_cmp}, Float.{binary64, float_is_finite}, Str.{IsUtf8}}
use Rattle.std.proofs.Common.{◌≡◌, ℕ, zero, suc, ◌<◌, ◌≤◌, ◌^◌, ◌&&◌, ◌==◌, nat_lt, nat_le, List, drop, get_or, Bool, true, false, cond, Float, Option, Some, None, option_map, option_and_then, Ordering, Less, Equal, Greater, refl, subst, ltb-true, leb-true, arith}
use Rattle.std.proofs.{lemmas.Bool.{and_parts, cond_both}, lemmas.Cmp.{nat_list_cmp_total}, lemmas.Option.{same_Some, cond_some}}
use Rattle.fast_float.specs.Text.{Parts, scan, digits_of, nearest, with_sign}
use Rattle.json.specs.Lex.{tokens}
use Rattle.serde_json.specs.Data.{Num, unsigned, negative, float, Data, number, array, object, Items, item, Members, no_members, member, put}
use Rattle.serde_json.specs.Read.{is_integer, float_of, number_from, number_of, of_json, of_items, of_members, max_depth, read}
use Rattle.pact_rules.specs.Kept.{IsBelow, IsNumber, IsKept, AreKept, MembersAreKept}
use Rattle.pact_file.proofs.{SetLemmas.{cmp-turned}, Steps.{option_map-some, option_and_then-some}}
use Rattle.pact_file.proofs.Utf8Tokens.{HasTexts, ItemsHaveTexts, MembersHaveTexts, value-has_texts_of_utf8}
use Rattle.json.specs.Json as json

-- ---- numbers

IsNumber-float_case : (b : Bool) (x : Float) (n : Num) → cond b (Some (float x)) None ≡ Some n → IsNumber n
IsNumber-float_case b x n h = subst IsNumber (cond_some b (float x) n h).1 tt

IsNumber-whole_case : (t : Bool) (m : Num) (rest : Option Num) (n : Num) → (t ≡ true → IsNumber m) → (rest ≡ Some n → IsNumber n) → cond t (Some m) rest ≡ Some n → IsNumber n
IsNumber-whole_case true m rest n fits other h = subst IsNumber (same_Some _ _ h) (fits refl)
IsNumber-whole_case false m rest n fits other h = other h

IsNumber-negative : (m : ℕ) → 0 < m → m ≤ 2 ^ 63 → IsNumber (negative (with_sign true m))
IsNumber-negative zero some fits = absurd (omega arith)
IsNumber-negative (suc k) some fits = omega arith

IsNumber-number_from : (sign : Bool) (p : Parts) (n : Num) → number_from sign p ≡ Some n → IsNumber n
IsNumber-number_from false p n h =
    IsNumber-whole_case (is_integer p && nat_lt (digits_of p) (2 ^ 64)) (unsigned (digits_of p)) (float_of false p) n (λ t. ltb-true (digits_of p) (2 ^ 64) (and_parts (is_integer p) _ t).1) (λ o. IsNumber-float_case (float_is_finite (nearest binary64 false p)) (nearest binary64 false p) n o) h
IsNumber-number_from true p n h =
    IsNumber-whole_case (is_integer p && nat_lt 0 (digits_of p) && nat_le (digits_of p) (2 ^ 63)) (negative (with_sign true (digits_of p))) (float_of true p) n
    (λ t. let parts = and_parts (is_integer p && nat_lt 0 (digits_of p)) _ t in
    IsNumber-negative (digits_of p) (ltb-true 0 (digits_of p) (and_parts (is_integer p) _ parts.0).1) (leb-true (digits_of p) (2 ^ 63) parts.1))
    (λ o. IsNumber-float_case (float_is_finite (nearest binary64 true p)) (nearest binary64 true p) n o) h

IsNumber-number_of : (s : List ℕ) (n : Num) → number_of s ≡ Some n → IsNumber n
unfolding number_of
IsNumber-number_of s n h =
    cond_both (get_or s 0 0 == 45) (number_from true (scan (drop 1 s))) (number_from false (scan s)) (λ o. o ≡ Some n → IsNumber n)
    (λ minus. IsNumber-number_from true (scan (drop 1 s)) n) (λ other. IsNumber-number_from false (scan s) n) h

-- ---- members

IsBelow-lower : (k l : List ℕ) (ms : Members) → slice_cmp nat_cmp k l ≡ Less → IsBelow l ms → IsBelow k ms
IsBelow-lower k l no_members h b = tt
IsBelow-lower k l (member m d ms) h b = (nat_list_cmp_total.trans k l m h b.0, IsBelow-lower k l ms h b.1)

IsBelow-put_case : (o : Ordering) (j k l : List ℕ) (d e : Data) (ms : Members) → slice_cmp nat_cmp j k ≡ Less → slice_cmp nat_cmp j l ≡ Less → IsBelow j ms → IsBelow j (put k d ms) → IsBelow j (match_ordering o (member k d (member l e ms)) (member l d ms) (member l e (put k d ms)))
IsBelow-put_case Less j k l d e ms p q b c = (p, (q, b))
IsBelow-put_case Equal j k l d e ms p q b c = (q, b)
IsBelow-put_case Greater j k l d e ms p q b c = (q, c)

IsBelow-put : (j k : List ℕ) (d : Data) (ms : Members) → slice_cmp nat_cmp j k ≡ Less → IsBelow j ms → IsBelow j (put k d ms)
IsBelow-put j k d no_members h b = (h, tt)
IsBelow-put j k d (member l e ms) h b = IsBelow-put_case (slice_cmp nat_cmp k l) j k l d e ms h b.0 b.1 (IsBelow-put j k d ms h b.1)

MembersAreKept-put_case : (o : Ordering) (k l : List ℕ) (d e : Data) (ms : Members) → slice_cmp nat_cmp k l ≡ o → IsUtf8 k → IsKept d → MembersAreKept (member l e ms) → MembersAreKept (put k d ms)
    → MembersAreKept (match_ordering o (member k d (member l e ms)) (member l d ms) (member l e (put k d ms)))
MembersAreKept-put_case Less k l d e ms is u h m r = ((is, IsBelow-lower k l ms is m.0), h, m, u)
MembersAreKept-put_case Equal k l d e ms is u h m r = (m.0, h, m.2, m.3)
MembersAreKept-put_case Greater k l d e ms is u h m r = (IsBelow-put l k d ms (cmp-turned (slice_cmp nat_cmp) nat_list_cmp_total k l Greater is) m.0, m.1, r, m.3)

MembersAreKept-put : (k : List ℕ) (d : Data) (ms : Members) → IsUtf8 k → IsKept d → MembersAreKept ms → MembersAreKept (put k d ms)
MembersAreKept-put k d no_members u h m = (tt, h, tt, u)
MembersAreKept-put k d (member l e ms) u h m = MembersAreKept-put_case (slice_cmp nat_cmp k l) k l d e ms refl u h m (MembersAreKept-put k d ms u h m.2)

-- ---- values

mutual
  IsKept-of_json : (j : json.Json) (d : Data) → HasTexts j → of_json j ≡ Some d → IsKept d
  IsKept-of_json (json.number s) d t h = let n = option_map-some number (number_of s) d h in subst IsKept n.2 (IsNumber-number_of s n.0 n.1)
  IsKept-of_json (json.string s) d t h = subst IsKept (same_Some _ _ h) t
  IsKept-of_json (json.array js) d t h = let ds = option_map-some array (of_items js) d h in subst IsKept ds.2 (AreKept-of_items js ds.0 t ds.1)
  IsKept-of_json (json.object ms) d t h = let m = option_map-some object (of_members ms no_members) d h in subst IsKept m.2 (MembersAreKept-of_members ms no_members m.0 t tt m.1)
  IsKept-of_json j d t h = subst IsKept (same_Some _ _ h) tt

  AreKept-of_items : (js : json.Items) (ds : Items) → ItemsHaveTexts js → of_items js ≡ Some ds → AreKept ds
  AreKept-of_items json.no_items ds t h = subst AreKept (same_Some _ _ h) tt
  AreKept-of_items (json.item j js) ds t h =
      let d = option_and_then-some (λ (d : Data). option_map (item d) (of_items js)) (of_json j) ds h in
      let es = option_map-some (item d.0) (of_items js) ds d.2 in
      subst AreKept es.2 (IsKept-of_json j d.0 t.0 d.1, AreKept-of_items js es.0 t.1 es.1)

  MembersAreKept-of_members : (ms : json.Members) (found new : Members) → MembersHaveTexts ms → MembersAreKept found → of_members ms found ≡ Some new → MembersAreKept new
  MembersAreKept-of_members json.no_members found new t m h = subst MembersAreKept (same_Some _ _ h) m
  MembersAreKept-of_members (json.member k j ms) found new t m h =
      let d = option_and_then-some (λ (d : Data). of_members ms (put k d found)) (of_json j) new h in
      MembersAreKept-of_members ms (put k d.0 found) new t.2 (MembersAreKept-put k d.0 found t.0 (IsKept-of_json j d.0 t.1 d.1) m) d.2

pub IsKept-read : (text : List ℕ) (d : Data) → IsUtf8 text → read text ≡ Some d → IsKept d
IsKept-read text d u h =
    let j = option_and_then-some of_json (option_and_then (λ p. json.if_last p.0 p.1) (json.value max_depth (tokens text))) d h in
    IsKept-of_json j.0 d (value-has_texts_of_utf8 max_depth text j.0 u j.1) j.2
