-- The strings among the tokens of a text that is UTF-8 are UTF-8, and so are those of the value that it is.
use Rattle.std.specs.{Prelude.{⊤}, Str.{IsUtf8}}
use Rattle.std.proofs.Common.{◌≡◌, ℕ, zero, suc, ◌<◌, List, [], ◌∷◌, ◌++◌, length, Bool, true, false, cond, ◌==◌, Option, Some, None, option_and_then, IfSome, refl, sym, subst, arith, append_assoc}
use Rattle.std.proofs.lemmas.Bool.Decides.{nat_tests}
use Rattle.json.specs.Token.{Token, begin_object, end_object, begin_array, end_array, key, string, number, boolean, null, bad}
use Rattle.json.specs.Lex.{Lexeme, token, comma, colon, Class, quote, backslash, operator, space, other, class, operator_lexeme, string_token, Mode, between, in_word, in_string, in_escape, lex_byte, lex, Place, fresh, after_value, after_comma, after_key, begins_colon, may_begin, may_close, if_allowed, place_token, punctuate, tokens}
use Rattle.json.specs.{Word.{is_operator, is_space, word, number_before, ends_word, literal, after_number, head}, Text.{content, plain}}
use Rattle.pact_file.proofs.Utf8Content.{IsUtf8-after_ascii, content-plain_IsUtf8}
use Rattle.json.specs.Ascii as ascii
use Rattle.json.specs.Json as json

abbrev pub TokenIsText : Token → Type 0
TokenIsText (key s) = IsUtf8 s
TokenIsText (string s) = IsUtf8 s
TokenIsText t = ⊤

abbrev pub AreTexts : List Token → Type 0
AreTexts [] = ⊤
AreTexts (t ∷ ts) = TokenIsText t × AreTexts ts

abbrev LexemeIsText : Lexeme → Type 0
LexemeIsText (token t) = TokenIsText t
LexemeIsText l = ⊤

abbrev LexemesAreTexts : List Lexeme → Type 0
LexemesAreTexts [] = ⊤
LexemesAreTexts (l ∷ ls) = LexemeIsText l × LexemesAreTexts ls

-- ---- lexemes

cond-either : {A : Type 0} (P : A → Type 0) (b : Bool) (x y : A) → P x → P y → P (cond b x y)
cond-either P true x y h k = h
cond-either P false x y h k = k

operator_lexeme-is_text : (x : ℕ) → LexemeIsText (operator_lexeme x)
operator_lexeme-is_text x =
    cond-either LexemeIsText (x == 123) (token begin_object) _ tt (cond-either LexemeIsText (x == 125) (token end_object) _ tt (cond-either LexemeIsText (x == 91) (token begin_array) _ tt
    (cond-either LexemeIsText (x == 93) (token end_array) _ tt (cond-either LexemeIsText (x == 44) comma colon tt tt))))

number_before-is_text : (t : List ℕ) (o : Option (List ℕ)) → TokenIsText (number_before t o)
number_before-is_text t None = tt
number_before-is_text t (Some rest) = cond-either TokenIsText (ends_word rest) _ bad tt tt

literal-is_text : (name : List ℕ) (t : Token) (s : List ℕ) → TokenIsText t → TokenIsText (literal name t s)
literal-is_text name t s h = cond-either TokenIsText _ t bad h tt

word-is_text : (t : List ℕ) → TokenIsText (word t)
unfolding word
word-is_text t =
    cond-either TokenIsText (head t == 116) _ _ (literal-is_text ascii.true_text (boolean true) t tt) (cond-either TokenIsText (head t == 102) _ _ (literal-is_text ascii.false_text (boolean false) t tt)
    (cond-either TokenIsText (head t == 110) _ _ (literal-is_text ascii.null_text null t tt) (number_before-is_text t (after_number t))))

string_token-is_text : (o : Option (List ℕ)) → ((s : List ℕ) → o ≡ Some s → IsUtf8 s) → TokenIsText (string_token o)
string_token-is_text None h = tt
string_token-is_text (Some s) h = h s refl

class-quote : (a b c d : Bool) → cond a quote (cond b backslash (cond c operator (cond d space other))) ≡ quote → a ≡ true
class-quote true b c d e = refl
class-quote false false false true e = absurd cc
class-quote a b c d e = absurd cc

quote-is_ascii : (x : ℕ) → (x == 34) ≡ true → x < 128
quote-is_ascii x h = grind (arith, nat_tests)

lex_byte-are_texts : (m : Mode) (c : Class) (front : List ℕ) (x : ℕ) (xs : List ℕ) → class x ≡ c → IsUtf8 (front ++ x ∷ xs) → (k : Mode → List Lexeme) → ((n : Mode) → LexemesAreTexts (k n))
    → LexemesAreTexts (lex_byte m c x xs k)
lex_byte-are_texts between quote front x xs e u k h =
    (string_token-is_text (content plain xs) (λ s is. content-plain_IsUtf8 [] xs s (IsUtf8-after_ascii front x xs u (quote-is_ascii x (class-quote (x == 34) (x == 92) (is_operator x) (is_space x) e))) is), h in_string)
lex_byte-are_texts between backslash front x xs e u k h = (tt, h in_word)
lex_byte-are_texts between operator front x xs e u k h = (operator_lexeme-is_text x, h between)
lex_byte-are_texts between space front x xs e u k h = h between
lex_byte-are_texts between other front x xs e u k h = (word-is_text (x ∷ xs), h in_word)
lex_byte-are_texts in_word operator front x xs e u k h = (operator_lexeme-is_text x, h between)
lex_byte-are_texts in_word space front x xs e u k h = h between
lex_byte-are_texts in_word c front x xs e u k h = h in_word
lex_byte-are_texts in_string quote front x xs e u k h = h between
lex_byte-are_texts in_string backslash front x xs e u k h = h in_escape
lex_byte-are_texts m c front x xs e u k h = h in_string

lex-are_texts : (m : Mode) (front xs : List ℕ) → IsUtf8 (front ++ xs) → LexemesAreTexts (lex m xs)
unfolding lex
lex-are_texts m front [] u = tt
lex-are_texts m front (x ∷ xs) u =
    lex_byte-are_texts m (class x) front x xs refl u (λ next. lex next xs) (λ n. lex-are_texts n (front ++ x ∷ []) xs (subst IsUtf8 (sym (append_assoc front (x ∷ []) xs)) u))

-- ---- tokens

if_allowed-are_texts : (b : Bool) (t : Token) (k : Place → List Token) (next : Place) → TokenIsText t → ((p : Place) → AreTexts (k p)) → AreTexts (if_allowed b t k next)
if_allowed-are_texts true t k next h f = (h, f next)
if_allowed-are_texts false t k next h f = (tt, tt)

place_token-are_texts : (p : Place) (t : Token) (b : Bool) (k : Place → List Token) → TokenIsText t → ((q : Place) → AreTexts (k q)) → AreTexts (place_token p t b k)
place_token-are_texts p begin_object b k h f = if_allowed-are_texts (may_begin p) begin_object k fresh h f
place_token-are_texts p end_object b k h f = if_allowed-are_texts (may_close p) end_object k after_value h f
place_token-are_texts p begin_array b k h f = if_allowed-are_texts (may_begin p) begin_array k fresh h f
place_token-are_texts p end_array b k h f = if_allowed-are_texts (may_close p) end_array k after_value h f
place_token-are_texts p (string s) true k h f = if_allowed-are_texts (may_begin p) (key s) k after_key h f
place_token-are_texts p (key s) b k h f = (tt, tt)
place_token-are_texts p bad b k h f = (tt, tt)
place_token-are_texts p t b k h f = if_allowed-are_texts (may_begin p) t k after_value h f

punctuate-are_texts : (p : Place) (ls : List Lexeme) → LexemesAreTexts ls → AreTexts (punctuate p ls)
unfolding punctuate
punctuate-are_texts fresh [] h = tt
punctuate-are_texts after_value [] h = tt
punctuate-are_texts after_value (comma ∷ ls) h = punctuate-are_texts after_comma ls h.1
punctuate-are_texts after_key (colon ∷ ls) h = punctuate-are_texts fresh ls h.1
punctuate-are_texts p (token t ∷ ls) h = place_token-are_texts p t (begins_colon ls) (λ next. punctuate next ls) h.0 (λ q. punctuate-are_texts q ls h.1)
punctuate-are_texts p ls h = (tt, tt)

tokens-are_texts : (text : List ℕ) → IsUtf8 text → AreTexts (tokens text)
tokens-are_texts text u = punctuate-are_texts fresh (lex between text) (lex-are_texts between [] text u)

-- ---- values

abbrev mutual
  pub HasTexts : json.Json → Type 0
  HasTexts (json.string s) = IsUtf8 s
  HasTexts (json.array js) = ItemsHaveTexts js
  HasTexts (json.object ms) = MembersHaveTexts ms
  HasTexts j = ⊤

  pub ItemsHaveTexts : json.Items → Type 0
  ItemsHaveTexts json.no_items = ⊤
  ItemsHaveTexts (json.item j js) = HasTexts j × ItemsHaveTexts js

  pub MembersHaveTexts : json.Members → Type 0
  MembersHaveTexts json.no_members = ⊤
  MembersHaveTexts (json.member k j ms) = IsUtf8 k × HasTexts j × MembersHaveTexts ms

-- what is read, if something is, and what is left
abbrev Read : {A : Type 0} → (A → Type 0) → Option (A × List Token) → Type 0
Read P o = IfSome o (λ x. P x.0 × AreTexts x.1)

abbrev Reads : {A : Type 0} → (A → Type 0) → json.Parse A → Type 0
Reads P parse = (ts : List Token) → AreTexts ts → Read P (parse ts)

Read-parse_map : {A B : Type 0} (P : A → Type 0) (Q : B → Type 0) (f : A → B) → ((a : A) → P a → Q (f a)) → (o : Option (A × List Token)) → Read P o → Read Q (json.parse_map f o)
Read-parse_map P Q f g None h = tt
Read-parse_map P Q f g (Some x) h = (g x.0 h.0, h.1)

Read-option_and_then : {A B : Type 0} (P : A → Type 0) (Q : B → Type 0) (f : A × List Token → Option (B × List Token)) → ((x : A × List Token) → P x.0 → AreTexts x.1 → Read Q (f x))
    → (o : Option (A × List Token)) → Read P o → Read Q (option_and_then f o)
Read-option_and_then P Q f g None h = tt
Read-option_and_then P Q f g (Some x) h = g x h.0 h.1

after_end_array-are_texts : (ts : List Token) → AreTexts ts → IfSome (json.after_end_array ts) AreTexts
after_end_array-are_texts (end_array ∷ ts) h = h.1
after_end_array-are_texts ts h = tt

abbrev IfText : Option (List ℕ) → Type 0
IfText o = IfSome o IsUtf8

read_key-is_text : Reads IfText json.read_key
read_key-is_text (end_object ∷ ts) h = (tt, h.1)
read_key-is_text (key s ∷ ts) h = (h.0, h.1)
read_key-is_text ts h = tt

module _ (value : json.Parse json.Json) (reads : Reads HasTexts value) where
  items_step-have_texts : (more : json.Parse json.Items) → Reads ItemsHaveTexts more → (ts : List Token) (o : Option (List Token)) → AreTexts ts → IfSome o AreTexts → Read ItemsHaveTexts (json.items_step value more ts o)
  items_step-have_texts more h ts (Some rest) t r = (tt, r)
  items_step-have_texts more h ts None t r =
      Read-option_and_then HasTexts ItemsHaveTexts _ (λ x j rest. Read-parse_map ItemsHaveTexts ItemsHaveTexts (json.item x.0) (λ js k. (j, k)) (more x.1) (h x.1 rest)) (value ts) (reads ts t)

  items-have_texts : (n : ℕ) → Reads ItemsHaveTexts (json.items value n)
  unfolding json.items
  items-have_texts zero ts t = tt
  items-have_texts (suc n) ts t = items_step-have_texts (json.items value n) (items-have_texts n) ts (json.after_end_array ts) t (after_end_array-are_texts ts t)

  members_step-have_texts : (more : json.Parse json.Members) → Reads MembersHaveTexts more → (k : Option (List ℕ)) (ts : List Token) → IfText k → AreTexts ts → Read MembersHaveTexts (json.members_step value more k ts)
  members_step-have_texts more h None ts k t = (tt, t)
  members_step-have_texts more h (Some s) ts k t =
      Read-option_and_then HasTexts MembersHaveTexts _ (λ x j rest. Read-parse_map MembersHaveTexts MembersHaveTexts (json.member s x.0) (λ ms m. (k, j, m)) (more x.1) (h x.1 rest)) (value ts) (reads ts t)

  members-have_texts : (n : ℕ) → Reads MembersHaveTexts (json.members value n)
  unfolding json.members
  members-have_texts zero ts t = tt
  members-have_texts (suc n) ts t =
      Read-option_and_then IfText MembersHaveTexts _ (λ x k rest. members_step-have_texts (json.members value n) (members-have_texts n) x.0 x.1 k rest) (json.read_key ts) (read_key-is_text ts t)

value_with-has_texts : (a : json.Parse json.Items) (o : json.Parse json.Members) → Reads ItemsHaveTexts a → Reads MembersHaveTexts o → Reads HasTexts (json.value_with a o)
value_with-has_texts a o g h (begin_object ∷ ts) t = Read-parse_map MembersHaveTexts HasTexts json.object (λ ms k. k) (o ts) (h ts t.1)
value_with-has_texts a o g h (begin_array ∷ ts) t = Read-parse_map ItemsHaveTexts HasTexts json.array (λ js k. k) (a ts) (g ts t.1)
value_with-has_texts a o g h (string s ∷ ts) t = (t.0, t.1)
value_with-has_texts a o g h (number s ∷ ts) t = (tt, t.1)
value_with-has_texts a o g h (boolean b ∷ ts) t = (tt, t.1)
value_with-has_texts a o g h (null ∷ ts) t = (tt, t.1)
value_with-has_texts a o g h ts t = tt

value-has_texts : (depth : ℕ) → Reads HasTexts (json.value depth)
unfolding json.value
value-has_texts zero = value_with-has_texts (λ ts. None) (λ ts. None) (λ ts t. tt) (λ ts t. tt)
value-has_texts (suc depth) =
    value_with-has_texts (λ ts. json.items (json.value depth) (length ts) ts) (λ ts. json.members (json.value depth) (length ts) ts)
    (λ ts t. items-have_texts (json.value depth) (value-has_texts depth) (length ts) ts t) (λ ts t. members-have_texts (json.value depth) (value-has_texts depth) (length ts) ts t)

if_last-has_texts : (o : Option (json.Json × List Token)) (j : json.Json) → Read HasTexts o → option_and_then (λ p. json.if_last p.0 p.1) o ≡ Some j → HasTexts j
if_last-has_texts (Some (i, [])) j h e = let same : i ≡ j = cc in subst HasTexts same h.0
if_last-has_texts o j h e = absurd cc

-- the value that a text is
pub value-has_texts_of_utf8 : (depth : ℕ) (text : List ℕ) (j : json.Json) → IsUtf8 text → option_and_then (λ p. json.if_last p.0 p.1) (json.value depth (tokens text)) ≡ Some j → HasTexts j
value-has_texts_of_utf8 depth text j u e = if_last-has_texts (json.value depth (tokens text)) j (value-has_texts depth (tokens text) (tokens-are_texts text u)) e
