use Rattle.std.proofs.Common.{Result, Ok, Err, OnOk, OnErr, sym, ◌∙◌, refl}
use Rattle.std.proofs.lemmas.Result.{on_ok_weaker}
use Rattle.std.proofs.lemmas.Bool.{false≢true}
use Rattle.slot_list.specs.declared.Version.{Version}
use Rattle.slot_list.proofs.Places.{put_at, put_gap, insert_rises, find_gap, written}
use Rattle.slot_list.proofs.edits.put_version.Goals as goal

-- what follows from either outcome
either : {T E P Q R : Type 0} (r : Result T E) → OnOk r P → OnErr r Q → (P → R) → (Q → R) → R
either (Ok x) ok err f g = f ok
either (Err e) ok err f g = g err

pub returns-in-Ok-clause-ok : goal.returns-in-Ok-clause-ok
returns-in-Ok-clause-ok c =
    let found = rw c.as_slice.ensures at c.in-Ok.ensures.found in
    written c.args.versions.now.items c.as_mut_slice-versions.result.now c.in-Ok.place c.args.version c.as_mut_slice-versions.ensures.value
    ∙ sym (put_at (λ (v : Version). v.slot) c.args.versions.now.items c.args.version.slot c.in-Ok.place found c.args.version)

pub returns-in-Err-clause-ok : goal.returns-in-Err-clause-ok
returns-in-Err-clause-ok c =
    let gap = rw c.as_slice.ensures at c.in-Err.ensures.absent in
    on_ok_weaker c.insert_version.result
    (λ made. made ∙ sym (put_gap (λ (v : Version). v.slot) c.args.versions.now.items c.args.version.slot c.in-Err.place gap c.args.version)) c.insert_version.ensures.ok

pub returns-in-Err-clause-rise : goal.returns-in-Err-clause-rise
returns-in-Err-clause-rise c =
    let gap = rw c.as_slice.ensures at c.in-Err.ensures.absent in
    either c.insert_version.result c.insert_version.ensures.ok c.insert_version.ensures.err
    (λ made. rw made (insert_rises (λ (v : Version). v.slot) c.args.versions.now.items c.args.version.slot c.in-Err.place gap c.args.version refl c.requires))
    (λ same. rw same c.requires)

pub returns-in-Err-clause-there : goal.returns-in-Err-clause-there
returns-in-Err-clause-there c = λ there.
    let gap = rw c.as_slice.ensures at c.in-Err.ensures.absent in
    absurd (false≢true (rw (find_gap (λ (v : Version). v.slot) c.args.versions.now.items c.args.version.slot c.in-Err.place gap) at there))
