-- What bringing all under the newest root does to a system: the end of a point under way, and perhaps a whole one.
use Rattle.std.proofs.Common.{◌≡◌, ◌⊎◌, inl, inr, ℕ, zero, suc, ◌+◌, ◌^◌, ◌≤◌, List, None, Result, Ok, Err, refl, ap, sym, subst, ◌∙◌, arith}
use Rattle.std.specs.Prelude.{MatchResult, OnOk, slice_index_or}
use Rattle.station.specs.Moments.{Meaning}
use Rattle.station.specs.declared.station.Station.{Ghosts}
use Rattle.station.proofs.Moments.{joined, weaker}
use Rattle.layout.specs.Places.{Blocks, blocks_of}
use Rattle.layout.specs.declared.pointer.Pointer.{Pointer}
use Rattle.layout.specs.declared.pointer.Pointer.TheVariants.{Hole}
use Rattle.layout.specs.declared.root.Root.{Root}
use Rattle.model.specs.States.{State}
use Rattle.images.specs.Roots.{slot}
use Rattle.oplog.specs.LogEnd.{LogEnd, next_of}
use Rattle.oplog.specs.declared.log.End.TheVariants.{Unopened}
use Rattle.system.specs.Counting.{AgesBy, Counted, IsNoGeneration, no_call, point_failed}
use Rattle.system.specs.Errors.{IsNotWritten, IsRefused}
use Rattle.system.specs.Images.{OpensTo}
use Rattle.system.specs.Points.{KeepsSlots, KeepsSlotsOn, MakesPoint, StaysAt}
use Rattle.system.specs.Serving.{HasEmptyLog, HasNothingNew, ServesState}
use Rattle.system.specs.CheckpointCommands.{MakesCovered}
use Rattle.system.specs.Slicing.{Finishes}
use Rattle.system.specs.Systems.{IsCovered, Parts, disk_of, meaning_of}
use Rattle.system.specs.declared.error.PointError.{PointError}
use Rattle.system.specs.declared.error.PointError.TheVariants.{NoGeneration, NotPlanned, NotWritten}
use Rattle.system.specs.declared.system.System.{System}
use Rattle.system.proofs.CountingLaws.{all_written, counted_after, logged_twice, next_age, not_written, same_age}
use Rattle.system.proofs.SystemLaws.{opens_same}

-- the log behind a point, made or not
pub aged : (old new : LogEnd) (r : Result (Unit {0}) PointError) → MatchResult r (λ _. new ≡ record old { epoch = old.epoch + 1; end = Unopened })
    (λ e. (IsRefused e × (new ≡ old)) ⊎ ((e ≡ NotWritten) × (new ≡ record old { epoch = old.epoch + 1; end = Unopened }))) → AgesBy 1 old.epoch new.epoch × (new.is_stopped ≡ old.is_stopped)
aged old new (Ok u) is = (next_age old.epoch new.epoch (ap (λ (l : LogEnd). l.epoch) is), ap (λ (l : LogEnd). l.is_stopped) is)
aged old new (Err e) (inl same) = (same_age old.epoch new.epoch (ap (λ (l : LogEnd). l.epoch) same.1), ap (λ (l : LogEnd). l.is_stopped) same.1)
aged old new (Err e) (inr moved) = (next_age old.epoch new.epoch (ap (λ (l : LogEnd). l.epoch) moved.1), ap (λ (l : LogEnd). l.is_stopped) moved.1)

emptied : {S : Type 0} {G : Ghosts S} (old new : System S G) (r : Result (Unit {0}) PointError) → MatchResult r (λ _. new.log ≡ record old.log { epoch = old.log.epoch + 1; end = Unopened })
    (λ e. (IsRefused e × (new.log ≡ old.log)) ⊎ ((e ≡ NotWritten) × (new.log ≡ record old.log { epoch = old.log.epoch + 1; end = Unopened })))
    → OnOk r (new.root.generation ≡ old.log.epoch) → OnOk r (HasEmptyLog new)
emptied old new (Ok u) is generation = record {
  epoch = ap (λ (l : LogEnd). l.epoch) is ∙ ap (λ n. n + 1) (sym generation);
  end = ap (λ (l : LogEnd). next_of l.end) is;
}
emptied old new (Err e) is generation = tt

pub on_ok_any : {T E : Type 0} {A : Type 0} (r : Result T E) → A → OnOk r A
on_ok_any (Ok x) a = a
on_ok_any (Err e) a = tt

error_is : (x y : PointError) (r q : Result (Unit {0}) PointError) → r ≡ Err x → q ≡ Err y → r ≡ q → x ≡ y
error_is x y r q first second is = cc

-- slots that stay twice stay
slots_twice : {r mid new : Root} {disk between after : Blocks} → KeepsSlotsOn r disk mid between → KeepsSlotsOn mid between new after → KeepsSlotsOn r disk new after
slots_twice {r} {mid} one two = record {
  slots = two.slots ∙ one.slots;
  heads = λ k block at. two.heads k block (same k ∙ at) ∙ one.heads k block at;
  later = omega (arith, one.later, two.later);
  geometry = two.geometry ∙ one.geometry;
}
  where
    same : (k : ℕ) → slot mid k ≡ slot r k
    same zero = refl
    same (suc j) = ap (λ (l : List Pointer). slice_index_or l j Hole) one.slots

both_keep : {r mid : Root} {disk between : Blocks} (new : Root) (after : Blocks) (result : Result (Unit {0}) PointError) → KeepsSlotsOn r disk mid between
    → OnOk result (KeepsSlotsOn mid between new after) → OnOk result (KeepsSlotsOn r disk new after)
both_keep new after (Ok u) one two = slots_twice one two
both_keep new after (Err e) one two = tt

module _ {S : Type 0} {G : Ghosts S} (old mid : System S G) where
  abbrev m : Meaning
  m = meaning_of old

  abbrev n : Meaning
  n = meaning_of mid

  -- ---- the point under way wasn't ended

  pub not_ended : (e : PointError) → Finishes old mid (Err e) → MakesCovered old mid (Err e)
  not_ended e does =
      let log : mid.log ≡ old.log = ap (λ (k : Parts). k.log) does.parts in
      record {
        counted = subst (λ (x : PointError). Counted m n (point_failed {T = Unit {0}} (Err x))) (sym does.why) (not_written {T = Unit {0}} {E = PointError} IsNotWritten m n e does.writes does.why);
        unlogged = does.unlogged;
        epoch = same_age old.log.epoch mid.log.epoch (ap (λ (l : LogEnd). l.epoch) log);
        runs = ap (λ (l : LogEnd). l.is_stopped) log;
        leaves = λ s served. (does.goes_on s.tree.descriptors s served).leaves;
        rests = tt;
        empty = tt;
        covered = λ s served. tt;
        slots = λ s served. tt;
        refused = λ s served refused. absurd (subst IsRefused does.why refused);
        roomy = λ s served is. absurd (subst IsRefused (sym (error_is e (NotPlanned _) (Err e) (Err (NotPlanned _)) refl refl is) ∙ does.why) tt);
        damaged = λ s served is. absurd (subst IsRefused (sym (error_is e (NotPlanned _) (Err e) (Err (NotPlanned _)) refl refl is) ∙ does.why) tt);
        last = λ s served is. absurd (subst IsRefused (sym (error_is e NoGeneration (Err e) (Err NoGeneration) refl refl is) ∙ does.why) tt);
        past = λ is. absurd (subst IsRefused (sym (error_is e NoGeneration (Err e) (Err NoGeneration) refl refl is) ∙ does.why) tt);
      }

  module _ (does : Finishes old mid (Ok tt)) where
    same_log : mid.log ≡ old.log
    same_log = ap (λ (k : Parts). k.log) does.parts

    pub rests : mid.blocks.pending ≡ None
    rests = ap (λ (k : Parts). k.pending) does.parts

    ended_counted : Counted m n no_call
    ended_counted = all_written {T = Unit {0}} {E = PointError} IsNotWritten m n tt does.writes

    stays : (s : State) → ServesState old s → ServesState mid s
    stays s served = (does.goes_on s.tree.descriptors s served).stays

    pub ended_slots : (s : State) → ServesState old s → KeepsSlots old mid
    ended_slots s served =
        let root : mid.root ≡ old.root = ap (λ (k : Parts). k.root) does.parts in
        let disk = (does.shows (blocks_of (disk_of old)) served.shows).is in
        record {
          slots = ap (λ (r : Root). r.snapshots) root;
          heads = λ k block at. sym (ap (λ (d : Blocks). d block) disk);
          later = subst (λ (r : Root). old.root.generation ≤ r.generation) (sym root) (omega arith);
          geometry = ap (λ (r : Root). r.geometry) root;
        }

    -- ---- it was, and nothing is left

    pub nothing_left : HasNothingNew mid → ((s : State) → ServesState mid s → IsCovered mid s.tree.descriptors s) → MakesCovered old mid (Ok tt)
    nothing_left nothing covers = record {
      counted = ended_counted;
      unlogged = does.unlogged;
      epoch = same_age old.log.epoch mid.log.epoch (ap (λ (l : LogEnd). l.epoch) same_log);
      runs = ap (λ (l : LogEnd). l.is_stopped) same_log;
      leaves = λ s served. (does.goes_on s.tree.descriptors s served).leaves;
      rests = rests;
      empty = nothing.log;
      covered = λ s served. covers s (stays s served);
      slots = ended_slots;
      refused = λ s served. tt;
      roomy = λ s served is. cc;
      damaged = λ s served is. cc;
      last = λ s served is. cc;
      past = λ is. cc;
    }

    -- ---- and a whole point was made, or not

    pub whole_point : (new : System S G) (r : Result (Unit {0}) PointError) → MakesPoint StaysAt (λ _. Unit {0}) mid new r → ((s : State) → ServesState mid s → OnOk r (KeepsSlots mid new))
        → MakesCovered old new r
    whole_point new r made slots =
        let o = meaning_of new in
        let age = aged mid.log new.log r made.log in
        record {
          counted = counted_after m n o (point_failed r) ended_counted made.counted;
          unlogged = logged_twice m n o does.unlogged made.unlogged;
          epoch = subst (λ (l : LogEnd). AgesBy 1 l.epoch new.log.epoch) same_log age.0;
          runs = age.1 ∙ ap (λ (l : LogEnd). l.is_stopped) same_log;
          leaves = λ s served.
              joined m n o (OpensTo m s) (does.goes_on s.tree.descriptors s served).leaves
              (weaker n o (λ c. OpensTo n s c ⊎ OpensTo n s c) (OpensTo m s) (made.any_moment s.tree.descriptors s (stays s served) s refl tt) (λ c here. elim here [
                | inl one ↦ opens_same m n s c does.writes.same.sectors one
                | inr other ↦ opens_same m n s c does.writes.same.sectors other
              ]));
          rests = on_ok_any r made.rests;
          empty = emptied mid new r made.log made.generation;
          covered = λ s served. made.covered s.tree.descriptors s (stays s served) s refl tt;
          slots = λ s served. both_keep new.root (blocks_of (disk_of new)) r (ended_slots s served) (slots s (stays s served));
          refused = λ s served. made.refused s.tree.descriptors s (stays s served);
          roomy = λ s served. made.roomy s.tree.descriptors s (stays s served) s refl tt;
          damaged = λ s served. made.damaged s.tree.descriptors s (stays s served) s refl;
          last = λ s served is. subst (λ (l : LogEnd). 2 ^ 62 ≤ l.epoch) same_log (made.last s.tree.descriptors s (stays s served) is);
          past = λ is. subst (λ (l : LogEnd). IsNoGeneration l.epoch) same_log (made.past is);
        }
