-- How a run of device calls goes on, for the crates above: one line for each call carries a proof of "at any moment",
-- of "whatever a cut may leave" and of what was counted.
use Rattle.std.proofs.Common.{◌≡◌, inl, inr, ℕ, ◌≤◌, ◌↔◌, List, length, take, arith, refl, sym, ap, ◌∙◌, subst}
use Rattle.std.proofs.lemmas.Bool.{cases_lt}
use Rattle.station.specs.Images.{Images, Unchanged, NvramWritten, NvramPrefixWritten, nvram_with}
use Rattle.station.specs.Moments.{Meaning, MayLeave, After, EachCut, KeepsDisk, Goes, LeftGoes, LeavesJust, LeavesOnly, IsSameStation, HasGrown, MayGrow}

-- THE SAME STATION

pub same_none : (m : Meaning) → IsSameStation m m
same_none m = record { sectors = refl; nvram_bytes = refl; honest = (λ is. is, λ is. is) }

pub same_twice : (old mid new : Meaning) → IsSameStation old mid → IsSameStation mid new → IsSameStation old new
same_twice old mid new first second = record {
  sectors = second.sectors ∙ first.sectors;
  nvram_bytes = second.nvram_bytes ∙ first.nvram_bytes;
  honest = (λ is. second.honest.0 (first.honest.0 is), λ is. first.honest.1 (second.honest.1 is));
}

-- COUNTS

module _ (a b c : ℕ) where
  pub grown_later : HasGrown a b → MayGrow b c → HasGrown a c
  grown_later grown (inl same) = omega (arith, grown, same)
  grown_later grown (inr more) = omega (arith, grown, more)

  pub grown_since : MayGrow a b → HasGrown b c → HasGrown a c
  grown_since (inl same) grown = omega (arith, grown, same)
  grown_since (inr more) grown = omega (arith, grown, more)

  pub may_grow_twice : MayGrow a b → MayGrow b c → MayGrow a c
  may_grow_twice (inl same) (inl again) = inl (again ∙ same)
  may_grow_twice (inl same) (inr grown) = inr (grown_since (inl same) grown)
  may_grow_twice (inr grown) later = inr (grown_later grown later)

-- STEPS

-- no call
pub goes_none : (m : Meaning) (step : Images → Images → Type 0) → ((a : Images) → step a a) → Goes step m m
goes_none m step reflexive honest = record {
  honest = honest;
  later = omega arith;
  kept = λ t c le. (λ left. left, λ left. left);
  added = λ t c late soon left. absurd (omega arith);
  now = λ c left. (c, left, reflexive c);
  seen = reflexive m.seen;
}

-- what two runs kept of earlier moments
both_kept : (old mid new : Meaning) → old.moment ≤ mid.moment
    → ((t : ℕ) (c : Images) → t ≤ old.moment → mid.left_at t c ↔ old.left_at t c) → ((t : ℕ) (c : Images) → t ≤ mid.moment → new.left_at t c ↔ mid.left_at t c)
    → (t : ℕ) (c : Images) → t ≤ old.moment → new.left_at t c ↔ old.left_at t c
both_kept old mid new later first second t c le =
    let early : t ≤ mid.moment = omega (arith, later, le) in
    (λ left. (first t c le).0 ((second t c early).0 left), λ left. (second t c early).1 ((first t c le).1 left))

-- two steps are one that covers the first alone and the two in a row
pub goes_twice : (old mid new : Meaning) (first second step : Images → Images → Type 0) → Goes first old mid → Goes second mid new
    → ((a b : Images) → first a b → step a b) → ((a b c : Images) → first a b → second b c → step a c) → Goes step old new
goes_twice old mid new first second step one two alone both honest =
    let a = one honest in
    let b = two a.honest in
    let before : (c : Images) → After second mid c → After step old c = λ c after.
    let d = a.now after.0 after.1 in (d.0, d.1, both d.0 after.0 c d.2 after.2) in
    record {
      honest = b.honest;
      later = omega (arith, a.later, b.later);
      kept = both_kept old mid new a.later a.kept b.kept;
      added = λ t c late soon left. elim (cases_lt mid.moment t) [
        | inl later ↦ before c (b.added t c later soon left)
        | inr early ↦ let d = a.added t c late early ((b.kept t c early).0 left) in (d.0, d.1, alone d.0 c d.2)
      ];
      now = λ c left. before c (b.now c left);
      seen = both old.seen mid.seen new.seen a.seen b.seen;
    }

pub unchanged_none : (m : Meaning) → Goes Unchanged m m
unchanged_none m = goes_none m Unchanged (λ a. refl)

-- two calls that change nothing are one
pub unchanged_twice : (old mid new : Meaning) → Goes Unchanged old mid → Goes Unchanged mid new → Goes Unchanged old new
unchanged_twice old mid new first second = goes_twice old mid new Unchanged Unchanged Unchanged first second (λ a b same. same) (λ a b c same again. again ∙ same)

-- WHATEVER A CUT NOW MAY LEAVE

pub each_weaker : (m : Meaning) (P Q : Images → Type 0) → EachCut m P → ((c : Images) → P c → Q c) → EachCut m Q
each_weaker m P Q each to honest c left = to c (each honest c left)

-- after a step that is done for certain
pub each_left : (old new : Meaning) (step : Images → Images → Type 0) (P Q : Images → Type 0) → IsSameStation old new → EachCut old P → LeftGoes step old new
    → ((c d : Images) → P d → step d c → Q c) → EachCut new Q
each_left old new step P Q same each goes to honest c left =
    let after = goes honest c left in
    to c after.0 (each (same.honest.1 honest) after.0 after.1) after.2

-- after a step
pub each_goes : (old new : Meaning) (step : Images → Images → Type 0) (P Q : Images → Type 0) → IsSameStation old new → EachCut old P → Goes step old new
    → ((c d : Images) → P d → step d c → Q c) → EachCut new Q
each_goes old new step P Q same each goes = each_left old new step P Q same each (λ honest. (goes (same.honest.1 honest)).now)

pub each_unchanged : (old new : Meaning) (P : Images → Type 0) → IsSameStation old new → EachCut old P → Goes Unchanged old new → EachCut new P
each_unchanged old new P same each goes = each_goes old new Unchanged P P same each goes (λ c d here is. subst P (sym is) here)

-- what a cut leaves, behind calls that change nothing
pub still_left : (old new : Meaning) (i : Images) → IsSameStation old new → Goes Unchanged old new → LeavesJust old i → LeavesJust new i
still_left old new i same goes just honest c left =
    let before = same.honest.1 honest in
    let d = (goes before).now c left in
    d.2 ∙ just before d.0 d.1

-- AT ANY MOMENT

-- the one moment from now to now
pub same_moment : (m : Meaning) (t : ℕ) (c : Images) → m.moment ≤ t → t ≤ m.moment → m.left_at t c → MayLeave m c
same_moment m t c low high left =
    let same : t ≡ m.moment = omega arith in
    subst (λ (u : ℕ). m.left_at u c) same left

-- before the first call
pub started : (m : Meaning) (P : Images → Type 0) → EachCut m P → LeavesOnly m m P
started m P here honest = record {
  honest = honest;
  later = omega arith;
  kept = λ t c le. (λ left. left, λ left. left);
  each = λ c left. here honest c (same_moment m left.0 c left.1 left.2 left.3);
}

-- one call more, after which a cut leaves what has P
pub goes_on : (old mid new : Meaning) (step : Images → Images → Type 0) (P : Images → Type 0) → LeavesOnly old mid P → Goes step mid new → ((c : Images) → After step mid c → P c) → LeavesOnly old new P
goes_on old mid new step P so_far goes here honest =
    let first = so_far honest in
    let went = goes first.honest in
    record {
      honest = went.honest;
      later = omega (arith, first.later, went.later);
      kept = both_kept old mid new first.later first.kept went.kept;
      each = λ c left. elim (cases_lt mid.moment left.0) [
        | inl added ↦ here c (went.added left.0 c added left.2 left.3)
        | inr early ↦ first.each c (left.0, left.1, early, (went.kept left.0 c early).0 left.3)
      ];
    }

-- one call more, on what a cut may leave before it
pub goes_on_from : (old mid new : Meaning) (step : Images → Images → Type 0) (Q P : Images → Type 0) → LeavesOnly old mid P → EachCut mid Q → Goes step mid new
    → ((c d : Images) → Q d → step d c → P c) → LeavesOnly old new P
goes_on_from old mid new step Q P so_far each goes to honest =
    goes_on old mid new step P so_far goes (λ c after. to c after.0 (each (so_far honest).honest after.0 after.1) after.2) honest

-- what is said of every moment may be said more weakly
pub weaker : (old new : Meaning) (P Q : Images → Type 0) → LeavesOnly old new P → ((c : Images) → P c → Q c) → LeavesOnly old new Q
weaker old new P Q leaves to honest =
    let left = leaves honest in
    record { honest = left.honest; later = left.later; kept = left.kept; each = λ c between. to c (left.each c between) }

-- two runs, one after the other
pub joined : (old mid new : Meaning) (P : Images → Type 0) → LeavesOnly old mid P → LeavesOnly mid new P → LeavesOnly old new P
joined old mid new P one two honest =
    let first = one honest in
    let second = two first.honest in
    record {
      honest = second.honest;
      later = omega (arith, first.later, second.later);
      kept = both_kept old mid new first.later first.kept second.kept;
      each = λ c left. elim (cases_lt mid.moment left.0) [
        | inl later ↦ second.each c (left.0, omega (arith, later), left.2, left.3)
        | inr early ↦ first.each c (left.0, left.1, early, (second.kept left.0 c early).0 left.3)
      ];
    }

-- what is left at every moment is left now
pub at_the_end : (old new : Meaning) (P : Images → Type 0) → IsSameStation old new → LeavesOnly old new P → EachCut new P
at_the_end old new P same leaves honest c left =
    let only = leaves (same.honest.1 honest) in
    only.each c (new.moment, only.later, omega arith, left)

-- what was left, and then calls that change nothing
pub goes_on_unchanged : (old mid new : Meaning) (P : Images → Type 0) → LeavesOnly old mid P → Goes Unchanged mid new → LeavesOnly old new P
goes_on_unchanged old mid new P so_far goes honest =
    let first = so_far honest in
    goes_on old mid new Unchanged P so_far goes (λ c after. subst P (sym after.2) (first.each after.0 (mid.moment, first.later, omega arith, after.1))) honest

-- calls that change nothing leave what was left
pub leaves_unchanged : (old new : Meaning) (P : Images → Type 0) → EachCut old P → Goes Unchanged old new → LeavesOnly old new P
leaves_unchanged old new P each goes = goes_on_unchanged old old new P (started old P each) goes

-- THE NVRAM ALONE IS WRITTEN

-- before any write
pub keeps_disk : (m : Meaning) (Q : List ℕ → Type 0) → EachCut m (λ c. Q c.nvram) → EachCut m (KeepsDisk m Q)
keeps_disk m Q holds honest c left = (c, left, refl, holds honest c left)

pub keeps_disk_weaker : (m : Meaning) (Q R : List ℕ → Type 0) → ((n : List ℕ) → Q n → R n) → (c : Images) → KeepsDisk m Q c → KeepsDisk m R c
keeps_disk_weaker m Q R to c keeps = (keeps.0, keeps.1, keeps.2, to c.nvram keeps.3)

-- the disk that later images keep is one of before
pub keeps_disk_twice : (old mid : Meaning) (Q P : List ℕ → Type 0) → ((c : Images) → MayLeave mid c → KeepsDisk old Q c) → (c : Images) → KeepsDisk mid P c → KeepsDisk old P c
keeps_disk_twice old mid Q P so_far c keeps =
    let before = so_far keeps.0 keeps.1 in
    (before.0, before.1, keeps.2 ∙ before.2, keeps.3)

-- a run of NVRAM writes, and then another
pub keeps_disk_joined : (old mid new : Meaning) (Q P : List ℕ → Type 0) → LeavesOnly old mid (KeepsDisk old P) → EachCut mid (KeepsDisk old Q) → LeavesOnly mid new (KeepsDisk mid P) → LeavesOnly old new (KeepsDisk old P)
keeps_disk_joined old mid new Q P first each second honest =
    joined old mid new (KeepsDisk old P) first (weaker mid new (KeepsDisk mid P) (KeepsDisk old P) second (keeps_disk_twice old mid Q P (each (first honest).honest))) honest

-- a write of which a beginning may have been kept, and one that is done
pub some_written : (old : Meaning) (at : ℕ) (bytes : List ℕ) (Q R : List ℕ → Type 0) → ((n : List ℕ) (k : ℕ) → k ≤ length bytes → Q n → R (nvram_with at (take k bytes) n))
    → (c d : Images) → KeepsDisk old Q d → NvramPrefixWritten at bytes d c → KeepsDisk old R c
some_written old at bytes Q R to c d before write =
    let is = write.writes in
    (before.0, before.1, ap (λ (i : Images). i.disk) is ∙ before.2, subst R (sym (ap (λ (i : Images). i.nvram) is)) (to d.nvram write.kept write.within before.3))

pub all_written : (old : Meaning) (at : ℕ) (bytes : List ℕ) (Q R : List ℕ → Type 0) → ((n : List ℕ) → Q n → R (nvram_with at bytes n))
    → (c d : Images) → KeepsDisk old Q d → NvramWritten at bytes d c → KeepsDisk old R c
all_written old at bytes Q R to c d before is =
    (before.0, before.1, ap (λ (i : Images). i.disk) is ∙ before.2, subst R (sym (ap (λ (i : Images). i.nvram) is)) (to d.nvram before.3))

module _ (old mid new : Meaning) (at : ℕ) (bytes : List ℕ) (Q R : List ℕ → Type 0) (each : EachCut mid (KeepsDisk old Q)) where
  -- a write more, at any moment
  pub nvram_goes_on : LeavesOnly old mid (KeepsDisk old R) → Goes (NvramPrefixWritten at bytes) mid new
      → ((n : List ℕ) (k : ℕ) → k ≤ length bytes → Q n → R (nvram_with at (take k bytes) n)) → LeavesOnly old new (KeepsDisk old R)
  nvram_goes_on so_far goes to =
      goes_on_from old mid new (NvramPrefixWritten at bytes) (KeepsDisk old Q) (KeepsDisk old R) so_far each goes (some_written old at bytes Q R to)

  -- after a write that is done
  pub nvram_left : IsSameStation mid new → LeftGoes (NvramWritten at bytes) mid new → ((n : List ℕ) → Q n → R (nvram_with at bytes n)) → EachCut new (KeepsDisk old R)
  nvram_left same goes to = each_left mid new (NvramWritten at bytes) (KeepsDisk old Q) (KeepsDisk old R) same each goes (all_written old at bytes Q R to)
