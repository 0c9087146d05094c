-- a token's digest is 64 hexadecimal digits
use Rattle.std.{specs.Int.{w32, byte_at, to_be_bytes}, proofs.Common.{◌/◌, ◌%◌, ◌<◌, ℕ, zero, suc, List, [], ◌∷◌, slice_index, inl, inr, All, arith}}
use Rattle.std.proofs.lemmas.List.Elements.{All-nil, All-cons, All-head, All-tail, All-append}
use Rattle.hex.{specs.Hex.{encode_with, lower_digits}, proofs.HexLemmas.{length-encode_with}}
use Rattle.sha2.{specs.Sha256.{digest_bytes, sha256}, proofs.Facts256.{length-sha256}}
use Rattle.broker_core.specs.SoundNames.{IsHexDigit, GivesDigests}
use Rattle.command_facts.specs.Primitives.{broker_primitives}

abbrev IsByte : ℕ → Type 0
IsByte b = b < 256

byte_at-lt_256 : (k x : ℕ) → byte_at k x < 256
byte_at-lt_256 zero x = omega arith
byte_at-lt_256 (suc i) x = omega arith

to_be_bytes-are_bytes : (x : ℕ) → All IsByte (to_be_bytes w32 x)
to_be_bytes-are_bytes x =
    let low = All-cons IsByte (byte_at 0 x) [] (byte_at-lt_256 0 x) (All-nil IsByte) in
    let two = All-cons IsByte (byte_at 1 x) (byte_at 0 x ∷ []) (byte_at-lt_256 1 x) low in
    let three = All-cons IsByte (byte_at 2 x) (byte_at 1 x ∷ byte_at 0 x ∷ []) (byte_at-lt_256 2 x) two in
    All-cons IsByte (byte_at 3 x) (byte_at 2 x ∷ byte_at 1 x ∷ byte_at 0 x ∷ []) (byte_at-lt_256 3 x) three

digest_bytes-are_bytes : (h : List ℕ) (n : ℕ) → All IsByte (digest_bytes h n)
unfolding digest_bytes
digest_bytes-are_bytes h zero = All-nil IsByte
digest_bytes-are_bytes h (suc n) = All-append IsByte (digest_bytes h n) _ (digest_bytes-are_bytes h n) (to_be_bytes-are_bytes (slice_index h n))

sha256-are_bytes : (m : List ℕ) → All IsByte (sha256 m)
unfolding sha256
sha256-are_bytes m = digest_bytes-are_bytes _ 8

lower_digits-is_hex : (d : ℕ) → d < 16 → IsHexDigit (slice_index lower_digits d)
lower_digits-is_hex zero low = inl (omega arith, omega arith)
lower_digits-is_hex (suc zero) low = inl (omega arith, omega arith)
lower_digits-is_hex (suc (suc zero)) low = inl (omega arith, omega arith)
lower_digits-is_hex (suc (suc (suc zero))) low = inl (omega arith, omega arith)
lower_digits-is_hex (suc (suc (suc (suc zero)))) low = inl (omega arith, omega arith)
lower_digits-is_hex (suc (suc (suc (suc (suc zero))))) low = inl (omega arith, omega arith)
lower_digits-is_hex (suc (suc (suc (suc (suc (suc zero)))))) low = inl (omega arith, omega arith)
lower_digits-is_hex (suc (suc (suc (suc (suc (suc (suc zero))))))) low = inl (omega arith, omega arith)
lower_digits-is_hex (suc (suc (suc (suc (suc (suc (suc (suc zero)))))))) low = inl (omega arith, omega arith)
lower_digits-is_hex (suc (suc (suc (suc (suc (suc (suc (suc (suc zero))))))))) low = inl (omega arith, omega arith)
lower_digits-is_hex (suc (suc (suc (suc (suc (suc (suc (suc (suc (suc zero)))))))))) low = inr (omega arith, omega arith)
lower_digits-is_hex (suc (suc (suc (suc (suc (suc (suc (suc (suc (suc (suc zero))))))))))) low = inr (omega arith, omega arith)
lower_digits-is_hex (suc (suc (suc (suc (suc (suc (suc (suc (suc (suc (suc (suc zero)))))))))))) low = inr (omega arith, omega arith)
lower_digits-is_hex (suc (suc (suc (suc (suc (suc (suc (suc (suc (suc (suc (suc (suc zero))))))))))))) low = inr (omega arith, omega arith)
lower_digits-is_hex (suc (suc (suc (suc (suc (suc (suc (suc (suc (suc (suc (suc (suc (suc zero)))))))))))))) low = inr (omega arith, omega arith)
lower_digits-is_hex (suc (suc (suc (suc (suc (suc (suc (suc (suc (suc (suc (suc (suc (suc (suc zero))))))))))))))) low = inr (omega arith, omega arith)
lower_digits-is_hex (suc (suc (suc (suc (suc (suc (suc (suc (suc (suc (suc (suc (suc (suc (suc (suc d)))))))))))))))) low = absurd (omega (arith, low))

encode_with-hex_digits : (bytes : List ℕ) → All IsByte bytes → All IsHexDigit (encode_with lower_digits bytes)
unfolding encode_with
encode_with-hex_digits [] all = All-nil IsHexDigit
encode_with-hex_digits (b ∷ rest) all =
    let byte = All-head IsByte b rest all in
    let more = encode_with lower_digits rest in
    let low = slice_index lower_digits (b % 16) in
    All-cons IsHexDigit (slice_index lower_digits (b / 16)) (low ∷ more) (lower_digits-is_hex (b / 16) (omega (arith, byte)))
    (All-cons IsHexDigit low more (lower_digits-is_hex (b % 16) (omega arith)) (encode_with-hex_digits rest (All-tail IsByte b rest all)))

pub GivesDigests-broker_primitives : GivesDigests broker_primitives
GivesDigests-broker_primitives token =
    let long = length-encode_with lower_digits (sha256 token) in
    let bytes = length-sha256 token in
    record { whole = omega (arith, long, bytes); digits = encode_with-hex_digits (sha256 token) (sha256-are_bytes token) }
