use Rattle.std.proofs.Common.{◌≡◌, ◌++◌, List, map, All, Option, sym, subst, arith}
use Rattle.slot_list.specs.declared.Version.{Version}
use Rattle.adb_model.specs.declared.key.Key.{Key}
use Rattle.book.specs.Listing.{IsSeen}
use Rattle.book.proofs.Reading.{found_more, kept_later, seen_more}
use Rattle.book.proofs.listing.find_on.Goals as goal

pub loop-keys-preserved : goal.loop-keys-preserved
loop-keys-preserved c =
    let p = c.args.book.now in
    let view = c.args.view.now in
    let i = c.loop-keys.invariant in
    let keys = c.loop-keys.keys in
    let later = c.next.new.self in
    let key = c.in-Some.key.now in
    let versions = c.in-Some.list.now.versions in
    let steps = c.in-Some.ensures.steps in
    let found = c.loop-keys.found.items in
    let seen = c.latest_of.result in
    let pushed = sym c.push.ensures.items in record {
      next = subst (λ (fs : List (Key × Option Version)). map (λ e. e.0) c.args.keys.now ≡ map (λ f. f.0.0) fs ++ map (λ e. e.0) later) pushed
          (found_more p view keys later key versions steps found seen (map (λ e. e.0) c.args.keys.now) i.next);
      kept = kept_later p view keys later key versions steps found seen i.kept;
      seen = subst (All (λ f. IsSeen p view f.0.0 f.1)) pushed (seen_more p view keys later key versions steps found seen i.kept c.latest_of.ensures i.seen);
      few = omega (arith, c.loop-keys-test.true, c.push.ensures.len, c.len.ensures.value);
    }
