use Rattle.serde_json.specs.View.{view}
use Rattle.std.proofs.{Common.{◌≡◌, ◌<◌, false, Err, length, nat_le, refl}, lemmas.Bool.{lt-leb}, lemmas.Result.{err_from_is_err_and}}
use Rattle.pact_file.specs.{File.{most_bytes, file_of}, Normal.{Normal}, declared.fault.PactFault.TheVariants.{TooLong}}
use Rattle.pact_file.proofs.ReadLemmas.{file_of-sound, file_of-IsSomeText, Normal-of_file}
use Rattle.pact_file.proofs.read.read_pact.Goals as goal

pub returns-then-bytes-gt-MOST_BYTES-clause-reading : goal.returns-then-bytes-gt-MOST_BYTES-clause-reading
unfolding Normal file_of
returns-then-bytes-gt-MOST_BYTES-clause-reading c = λ memory.
    let more : most_bytes < length c.args.bytes.now = c.if-bytes-gt-MOST_BYTES.true in
    let long : nat_le (length c.args.bytes.now) most_bytes ≡ false = lt-leb (length c.args.bytes.now) most_bytes more in
    (Err TooLong, rw long refl, refl)

pub returns-in_err-file-clause-reading : goal.returns-in_err-file-clause-reading
unfolding Normal
returns-in_err-file-clause-reading c =
    let p = err_from_is_err_and c.from_residual.result c.from_residual.ensures.1 in
    rw (p.1, p.2) (λ memory. (Err c.in_err-file.field-0.0, c.in_err-file.ensures.value memory, refl))

pub pact_of-requires : goal.pact_of-requires
pact_of-requires c = file_of-sound c.args.bytes.now (view c.in_ok-file.file) c.in_ok-file.ensures.value

pub returns-clause-reading : goal.returns-clause-reading
returns-clause-reading c = Normal-of_file c.args.bytes.now (view c.in_ok-file.file) c.pact_of.result c.in_ok-file.ensures.value c.pact_of.ensures.reading

pub returns-clause-memory : goal.returns-clause-memory
returns-clause-memory c = λ memory. file_of-IsSomeText c.args.bytes.now (view c.in_ok-file.file) c.in_ok-file.ensures.value
