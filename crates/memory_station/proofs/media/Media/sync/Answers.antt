use Rattle.std.proofs.Common.{refl}
use Rattle.memory_station.proofs.TiedLemmas.{tied_with-sync, tied_with-sync_failed}
use Rattle.memory_station.proofs.MediaLemmas.{listed-sync, listed-sync_failed}
use Rattle.memory_station.proofs.media.Media.sync.Goals as goal

pub invariant_of-self-then-done-clause-tied : goal.invariant_of-self-then-done-clause-tied
invariant_of-self-then-done-clause-tied c = tied_with-sync _ _ _ _ _ _ _ _ _ c.args.self.now.tied _ _ c.args.done
    c.in_ok-push.ensures.items c.requires c.if-done.true
    (λ n. rw (c.copy.ensures.bytes, c.copy.ensures.bad) refl) (cc)

pub invariant_of-self-else-done-clause-tied : goal.invariant_of-self-else-done-clause-tied
invariant_of-self-else-done-clause-tied c = rw (c.in_ok-reserve.ensures.bytes, c.in_ok-reserve.ensures.bad) (tied_with-sync_failed _ _ _ _ _ _ _ _ _ c.args.self.now.tied c.args.done
    c.in_ok-push.ensures.items c.requires c.if-done.false)

pub invariant_of-self-then-done-clause-listed : goal.invariant_of-self-then-done-clause-listed
invariant_of-self-then-done-clause-listed c = listed-sync _ _ _ c.args.self.now.listed c.args.done _ c.in_ok-push.ensures.items c.if-done.true (cc)

pub invariant_of-self-else-done-clause-listed : goal.invariant_of-self-else-done-clause-listed
invariant_of-self-else-done-clause-listed c = listed-sync_failed _ _ _ c.args.self.now.listed c.args.done c.in_ok-push.ensures.items c.if-done.false
