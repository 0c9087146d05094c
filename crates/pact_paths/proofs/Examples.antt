-- Paths and weights worked out: each line is the definitions, computed.
use Rattle.std.{specs.{List.{concat}, Fmt.{digits}}, proofs.Common.{◌≡◌, [], ◌∷◌, ◌++◌, Ok, Err, codes, replicate, refl, inl, inr}}
use Rattle.pact_paths.specs.{Paths.{named, indexed, any, key, item, Location}, Weights.{weight, token_weight}, Spelling.{IsSpelled, path_text}}
use Rattle.pact_paths.specs.{PathReading.{path_in, tokens_in}, declared.path_reader.PathFault.TheVariants.{NoRoot, BadToken, TooManyTokens}}

-- ---- weights at `$.item1.level[1].id`

abbrev location : Location
location = key (codes "item1") ∷ key (codes "level") ∷ item 1 ∷ key (codes "id") ∷ []

weight-root : weight [] location ≡ 2
weight-root = refl

weight-one_name : weight (named (codes "item1") ∷ []) location ≡ 4
weight-one_name = refl

weight-two_names : weight (named (codes "item1") ∷ named (codes "level") ∷ []) location ≡ 8
weight-two_names = refl

weight-index : weight (named (codes "item1") ∷ named (codes "level") ∷ indexed 1 ∷ []) location ≡ 16
weight-index = refl

weight-whole_path : weight (named (codes "item1") ∷ named (codes "level") ∷ indexed 1 ∷ named (codes "id") ∷ []) location ≡ 32
weight-whole_path = refl

weight-any_index : weight (named (codes "item1") ∷ named (codes "level") ∷ any ∷ []) location ≡ 8
weight-any_index = refl

weight-name_after_any : weight (named (codes "item1") ∷ named (codes "level") ∷ any ∷ named (codes "id") ∷ []) location ≡ 16
weight-name_after_any = refl

weight-two_any : weight (any ∷ named (codes "level") ∷ any ∷ named (codes "id") ∷ []) location ≡ 8
weight-two_any = refl

weight-other_name : weight (named (codes "item2") ∷ []) location ≡ 0
weight-other_name = refl

-- a name never equals an index
weight-name_for_index : weight (named (codes "item1") ∷ named (codes "level") ∷ named (codes "1") ∷ named (codes "id") ∷ []) location ≡ 0
weight-name_for_index = refl

weight-longer_path : weight (named (codes "item1") ∷ named (codes "level") ∷ indexed 1 ∷ named (codes "id") ∷ named (codes "x") ∷ []) location ≡ 0
weight-longer_path = refl

weight-greatest : weight (replicate 60 (named (codes "a"))) (replicate 60 (key (codes "a"))) ≡ 2305843009213693952
weight-greatest = refl

-- ---- the tokens of `$.item1[*][1]` at the step item1

token_weight-same_name : token_weight (named (codes "item1")) (key (codes "item1")) ≡ 2
token_weight-same_name = refl

token_weight-any : token_weight any (key (codes "item1")) ≡ 1
token_weight-any = refl

token_weight-index_at_name : token_weight (indexed 1) (key (codes "item1")) ≡ 0
token_weight-index_at_name = refl

-- ---- spellings

IsSpelled-name_after_dot : IsSpelled (codes ".it em") (named (codes "it em"))
IsSpelled-name_after_dot = inl (refl, refl)

IsSpelled-empty_name : IsSpelled (codes "['']") (named [])
IsSpelled-empty_name = inr (refl, tt)

IsSpelled-leading_zeros : IsSpelled (codes "[007]") (indexed 7)
IsSpelled-leading_zeros = (codes "007", refl, refl, refl)

-- ---- texts and what they read as

path_in-root : path_in (codes "$") ≡ Ok []
unfolding tokens_in
path_in-root = refl

path_in-quotes_and_zeros : path_in (codes "$['it em'][007]") ≡ Ok (named (codes "it em") ∷ indexed 7 ∷ [])
unfolding tokens_in
path_in-quotes_and_zeros = refl

path_in-dot_in_quotes : path_in (codes "$['a.b'].*") ≡ Ok (named (codes "a.b") ∷ any ∷ [])
unfolding tokens_in
path_in-dot_in_quotes = refl

path_in-three_tokens : path_in (codes "$.item1[*][1]") ≡ Ok (named (codes "item1") ∷ any ∷ indexed 1 ∷ [])
unfolding tokens_in
path_in-three_tokens = refl

-- in quotes a star is a name, in brackets it is Any
path_in-stars : path_in (codes "$['*'][*]") ≡ Ok (named (codes "*") ∷ any ∷ [])
unfolding tokens_in
path_in-stars = refl

path_in-quoted_empty : path_in (codes "$['']") ≡ Ok (named [] ∷ [])
unfolding tokens_in
path_in-quoted_empty = refl

path_in-nine_digits : path_in (codes "$[123456789]") ≡ Ok (indexed 123456789 ∷ [])
unfolding tokens_in
path_in-nine_digits = refl

path_in-empty_text : path_in [] ≡ Err NoRoot
path_in-empty_text = refl

path_in-no_root : path_in (codes "item") ≡ Err NoRoot
path_in-no_root = refl

path_in-two_dots : path_in (codes "$.a..b") ≡ Err (BadToken 3)
unfolding tokens_in
path_in-two_dots = refl

path_in-dot_at_end : path_in (codes "$.") ≡ Err (BadToken 1)
unfolding tokens_in
path_in-dot_at_end = refl

path_in-ten_digits : path_in (codes "$[1234567890]") ≡ Err (BadToken 1)
unfolding tokens_in
path_in-ten_digits = refl

path_in-no_digit : path_in (codes "$[]") ≡ Err (BadToken 1)
unfolding tokens_in
path_in-no_digit = refl

path_in-open_quote : path_in (codes "$['a]") ≡ Err (BadToken 1)
unfolding tokens_in
path_in-open_quote = refl

-- the name takes all that it can, and the star begins no token
path_in-star_after_name : path_in (codes "$.a*") ≡ Err (BadToken 3)
unfolding tokens_in
path_in-star_after_name = refl

path_in-name_after_star : path_in (codes "$.*a") ≡ Err (BadToken 3)
unfolding tokens_in
path_in-name_after_star = refl

path_in-sixty_tokens : path_in (codes "$" ++ concat (replicate 60 (codes ".a"))) ≡ Ok (replicate 60 (named (codes "a")))
unfolding tokens_in
path_in-sixty_tokens = refl

path_in-too_many_tokens : path_in (codes "$" ++ concat (replicate 61 (codes ".a"))) ≡ Err TooManyTokens
unfolding tokens_in
path_in-too_many_tokens = refl

-- after 60 tokens the text isn't read for another one
path_in-too_many_and_bad : path_in (codes "$" ++ concat (replicate 60 (codes ".a")) ++ codes "*") ≡ Err TooManyTokens
unfolding tokens_in
path_in-too_many_and_bad = refl

-- ---- canonical texts

path_text-quotes_dropped : path_text (named (codes "it em") ∷ indexed 7 ∷ []) ≡ codes "$.it em[7]"
unfolding digits
path_text-quotes_dropped = refl

path_text-quotes_kept : path_text (named (codes "a.b") ∷ any ∷ named [] ∷ []) ≡ codes "$['a.b'][*]['']"
path_text-quotes_kept = refl

path_text-root : path_text [] ≡ codes "$"
path_text-root = refl

path_text-dot_in_name : path_text (named (codes "a.b") ∷ any ∷ []) ≡ codes "$['a.b'][*]"
path_text-dot_in_name = refl

path_text-empty_name : path_text (named [] ∷ []) ≡ codes "$['']"
path_text-empty_name = refl

path_text-index : path_text (indexed 123456789 ∷ []) ≡ codes "$[123456789]"
unfolding digits
path_text-index = refl

path_text-star : path_text (named (codes "*") ∷ any ∷ []) ≡ codes "$['*'][*]"
path_text-star = refl
