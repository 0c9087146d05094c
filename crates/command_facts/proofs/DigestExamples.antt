-- worked examples of the digests of tokens, computed from the definition (FIPS 180-4)
use Rattle.std.{specs.{Prelude.{codes}, Cmp.Lexicographic.{other_text}}, proofs.Common.{◌≡◌, ◌≢◌, ◌∙◌, refl, sym}}
use Rattle.hex.proofs.OnLiterals.{hex_on_literals}
use Rattle.sha2.specs.Sha256.{first_words, schedule, rounds, compress, hash_after, digest_bytes, sha256}
use Rattle.command_facts.specs.Primitives.{broker_primitives}

digest_of-office_token : broker_primitives.digest_of (codes "office-token-0001") ≡ codes "911136037767135847f042ad4530b5746995d41379f7595f8638550348fe019c"
unfolding first_words schedule rounds compress hash_after digest_bytes sha256 hex_on_literals
digest_of-office_token = refl

digest_of-team_token : broker_primitives.digest_of (codes "red-team-token-01") ≡ codes "e0245048fb374c9d23c4bf9a4a5988cf946926a7183bce773b93b1e4c7a461f6"
unfolding first_words schedule rounds compress hash_after digest_bytes sha256 hex_on_literals
digest_of-team_token = refl

digest_of-two_tokens_differ : broker_primitives.digest_of (codes "office-token-0001") ≢ broker_primitives.digest_of (codes "red-team-token-01")
digest_of-two_tokens_differ same =
    other_text (codes "911136037767135847f042ad4530b5746995d41379f7595f8638550348fe019c") (codes "e0245048fb374c9d23c4bf9a4a5988cf946926a7183bce773b93b1e4c7a461f6") refl
    (sym digest_of-office_token ∙ same ∙ digest_of-team_token)
