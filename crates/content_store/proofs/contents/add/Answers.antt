use Rattle.std.proofs.Common.{subst, sym}
use Rattle.sqlite.specs.Held.{state}
use Rattle.table_access.proofs.CallLemmas.{CallsBetween-then_call}
use Rattle.sha2.specs.Sha256.{sha256}
use Rattle.content_store.{specs.Contents.{ContentsBy, IsPut, hex_of}, proofs.Held.{Holds-ContentsBy, FailsByStoreUnlessBetween-then}}
use Rattle.content_store.proofs.contents.add.Goals as goal

pub returns-clause-call : goal.returns-clause-call
returns-clause-call g c =
    CallsBetween-then_call _ _ _ c.in-Ok.value c.add_after.result _ _ _
    (λ one number two by is texts held free.
    let read = one by texts held in
    subst (λ d. IsPut by c.args.body.now texts number d (state g.S.Store c.add_after.new.conn).now) read.1
    (two by is texts (subst (λ d. ContentsBy by d texts) (sym read.1) held) free read.0))
    c.in-Ok.ensures.call c.add_after.ensures.call

pub returns-clause-failure : goal.returns-clause-failure
returns-clause-failure g c =
    FailsByStoreUnlessBetween-then _ _ _ c.in-Ok.value c.add_after.result _ _ _ _ _ c.in-Ok.ensures.call c.add_after.ensures.call
    (λ read s held allowed. let returned = read (hex_of sha256) s.contents (Holds-ContentsBy _ s held) in ((returned.0, allowed.1), returned.1)) c.add_after.ensures.failure
