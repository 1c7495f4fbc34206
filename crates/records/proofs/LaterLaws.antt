-- Objects that come into memory beside others, and a plan that was made before.
use Rattle.std.proofs.Common.{◌≡◌, ◌≢◌, ◌∙◌, ℕ, List, false, Option, Some, None, IfOk, IfSome, is_some, Result, Ok, Err, refl, inl, inr, ap, sym, subst}
use Rattle.std.specs.Result.{IsErrAnd, IsErrOf}
use Rattle.std.specs.Prelude.{OnOk}
use Rattle.std.proofs.lemmas.Bool.{cases_eq}
use Rattle.layout.specs.declared.inode.Inode.{Inode}
use Rattle.model.specs.Records.{Edit, create, link, remove_name, rename, write, truncate, change_attributes, set_file}
use Rattle.model.specs.Touches.{Touches}
use Rattle.model.specs.Volumes.{Volume}
use Rattle.model.specs.declared.time.Time.{Time}
use Rattle.buffers.specs.Errors.{IsFault}
use Rattle.buffers.specs.Reads.{ReadsBlocks}
use Rattle.buffers.specs.declared.blocks.Blocks.{Ghosts}
use Rattle.buffers.specs.declared.error.BlockError.{BlockError}
use Rattle.buffers.specs.declared.error.BlockError.TheVariants.{Damaged}
use Rattle.images.specs.Soundness.{Detail}
use Rattle.inode.specs.declared.object.Object.{Object}
use Rattle.inofile.specs.Inodes.{HasRoomFor, IsKnown, loaded}
use Rattle.inofile.specs.Room.{NeedsNoMore}
use Rattle.inofile.specs.Settled.{AreSettledIn}
use Rattle.inofile.specs.Volumes.{IsVolumeIn}
use Rattle.inofile.specs.declared.inode_file.InodeFile.{InodeFile}
use Rattle.paths.proofs.LookingUp.{same_error}
use Rattle.paths.proofs.Looks.{looks_err, looks_more, looks_ok}
use Rattle.records.specs.Marks.{AreMarkedAtHand, BringsBeside, KeepsLoaded, OnEachTouched, OnMarked, touches_in}
use Rattle.records.specs.Plans.{DoesEditIn, IsPlanAtHand, IsPlanReady, KnowsEdited}
use Rattle.records.specs.Room.{SomeRoom, UpdateRoom}
use Rattle.records.specs.Steps.{FitsUpdate, IsAtHand, StepsSome, TakesSome, TakesUpdate}
use Rattle.records.specs.declared.marks.Marks.{Marks}
use Rattle.records.specs.declared.plans.Plan.{Plan}
use Rattle.records.specs.declared.steps.ObjectUpdate.{ObjectUpdate}
use Rattle.records.specs.declared.steps.Update.{Update}
use Rattle.records.proofs.StandLaws.{no_look, some_stays_at_hand, stands_over, stays_at_hand}
use Rattle.records.proofs.StepLaws.{steps_after}

-- ---- objects that come into memory

-- where it has this of one number, and what it had of each other, memory keeps what it knew
pub loaded_still : (s t : InodeFile) (number : ℕ) → (IsKnown s number → loaded t number ≡ loaded s number) → ((n : ℕ) → n ≢ number → loaded t n ≡ loaded s n) → KeepsLoaded s t
loaded_still s t number here rest n known = elim (cases_eq n number) [
  | inl same ↦ ap (loaded t) same ∙ here (subst (IsKnown s) same known) ∙ ap (loaded s) (sym same)
  | inr other ↦ rest n other
]

-- one does
pub brings_load : {B T : Type 0} {G : Ghosts B} {a b : B} {s t : InodeFile} {r : Result T BlockError} (number : ℕ) → ReadsBlocks G IsFault a b r → t.geometry ≡ s.geometry → NeedsNoMore s t
    → ((n : ℕ) → IsKnown s n → IsKnown t n) → ((n : ℕ) → HasRoomFor s n → HasRoomFor t n) → OnOk r (IsKnown t number) → (IsKnown s number → loaded t number ≡ loaded s number)
    → ((n : ℕ) → n ≢ number → loaded t n ≡ loaded s n)
    → ((detail : Detail) (disk : ℕ → List ℕ) (settled : ℕ → Inode) (v : Volume) → G.Shows a disk → IsVolumeIn detail (G.count a) disk settled s v → IsVolumeIn detail (G.count a) disk settled t v)
    → ((detail : Detail) (disk : ℕ → List ℕ) (settled : ℕ → Inode) → G.Shows a disk → IsErrOf r Damaged → AreSettledIn detail (G.count a) disk s.version s.geometry s.file settled → ⊥)
    → BringsBeside G a b s t (λ u. IsKnown u number) r
brings_load {a = a} {b = b} {s = s} {t = t} number reads geometry needs stays keeps known here rest volume damaged = record {
  brings = record {
    looks = record {
      reads = reads;
      geometry = geometry;
      needs = needs;
      kept = λ {detail} disk settled v stands. stands_over a b t reads.count (reads.same disk stands.shows) (volume detail disk settled v stands.shows stands.volume);
    };
    stays = stays;
    keeps = keeps;
    known = known;
    damaged = λ {detail} disk settled v stands is. damaged detail disk settled stands.shows is stands.volume.inodes;
  };
  keeps = loaded_still s t number here rest;
}

module _ {B T : Type 0} {G : Ghosts B} where
  -- nothing does
  pub brings_nothing : {a : B} {s : InodeFile} {Known : InodeFile → Type 0} {x : T} → Known s → BringsBeside G a a s s Known (Ok x)
  brings_nothing known = record {
    brings = record { looks = looks_ok no_look; stays = λ n is. is; keeps = λ n is. is; known = known; damaged = λ disk settled v stands is. cc };
    keeps = λ n is. refl;
  }

  -- something else is told by it
  pub brings_told : {U : Type 0} {a b : B} {s t : InodeFile} {Known : InodeFile → Type 0} {x : T} {y : U} → BringsBeside {T = T} G a b s t Known (Ok x) → BringsBeside G a b s t Known (Ok y)
  brings_told brings = record {
    brings = record {
      looks = looks_ok brings.brings.looks;
      stays = brings.brings.stays;
      keeps = brings.brings.keeps;
      known = brings.brings.known;
      damaged = λ disk settled v stands is. cc;
    };
    keeps = brings.keeps;
  }

  module _ {U : Type 0} {a b : B} {s t : InodeFile} {Known Told : InodeFile → Type 0} where
    -- one isn't read
    pub brings_failed : {e : BlockError} (q : Result U BlockError) → IsErrAnd q (λ f. f ≡ e) → BringsBeside {T = T} G a b s t Known (Err e) → BringsBeside G a b s t Told q
    brings_failed (Ok x) is brings = absurd is
    brings_failed {e = e} (Err f) is brings = record {
      brings = record {
        looks = looks_err (Err f) is brings.brings.looks;
        stays = brings.brings.stays;
        keeps = brings.brings.keeps;
        known = tt;
        damaged = λ {detail} disk settled v stands bad. brings.brings.damaged {detail = detail} disk settled v stands (same_error (Err f) e Damaged is bad);
      };
      keeps = brings.keeps;
    }

  module _ {U : Type 0} {a b c : B} {s t u : InodeFile} {Known Then Told : InodeFile → Type 0} {x : T} {r : Result U BlockError} where
    -- one comes into memory behind another one
    pub brings_then : BringsBeside {T = T} G a b s t Known (Ok x) → BringsBeside G b c t u Then r → OnOk r (Told u) → BringsBeside G a c s u Told r
    brings_then first last known = record {
      brings = record {
        looks = looks_more first.brings.looks last.brings.looks;
        stays = λ n is. last.brings.stays n (first.brings.stays n is);
        keeps = λ n is. last.brings.keeps n (first.brings.keeps n is);
        known = known;
        damaged = λ {detail} disk settled v stands is. last.brings.damaged {detail = detail} disk settled v (first.brings.looks.kept disk settled v stands) is;
      };
      keeps = λ n is. last.keeps n (first.brings.stays n is) ∙ first.keeps n is;
    }

-- where it failed, nothing is told of what it gives
pub none_given : {T : Type 0} (P : T → Type 0) (Q : BlockError → Type 0) (q : Result T BlockError) → IsErrAnd q Q → IfOk q P
none_given P Q (Ok x) is = absurd is
none_given P Q (Err e) is = tt

-- what is at hand stays so
pub hand_later : {B T : Type 0} {G : Ghosts B} {a b : B} {s t : InodeFile} {Known : InodeFile → Type 0} {r : Result T BlockError} → BringsBeside G a b s t Known r
    → (number : Option ℕ) → IfSome number (IsAtHand s) → IfSome number (IsAtHand t)
hand_later brings None is = tt
hand_later {s = s} {t = t} brings (Some number) is = stays_at_hand s t brings.brings.looks.geometry brings.brings.keeps brings.brings.stays number is

-- ---- touches

-- where there is no time, anything holds of what is touched
pub nothing_marked : (Holds : ℕ → Type 0) (marks : Marks) → is_some marks.time ≡ false → OnMarked Holds marks
nothing_marked Holds marks none = by marks.time none
  where
    by : (time : Option Time) → is_some time ≡ false → IfSome time (λ _. OnEachTouched Holds (touches_in marks))
    by None none = tt
    by (Some time) none = cc

-- what is true of the numbers of touches is true of those that are marked
pub marked_so : (Holds : ℕ → Type 0) (marks : Marks) (touches : Touches) → touches_in marks ≡ touches → OnEachTouched Holds touches → OnMarked Holds marks
marked_so Holds marks touches same holds = by marks.time (subst (OnEachTouched Holds) (sym same) holds)
  where
    by : (time : Option Time) → OnEachTouched Holds (touches_in marks) → IfSome time (λ _. OnEachTouched Holds (touches_in marks))
    by None holds = tt
    by (Some time) holds = holds

-- what is at hand of it stays so
module _ (s t : InodeFile) (same : t.geometry ≡ s.geometry) (keeps : (n : ℕ) → HasRoomFor s n → HasRoomFor t n) (stays : (n : ℕ) → IsKnown s n → IsKnown t n) where
  each_later : (number : Option ℕ) → IfSome number (IsAtHand s) → IfSome number (IsAtHand t)
  each_later None is = tt
  each_later (Some number) is = stays_at_hand s t same keeps stays number is

  pub marked_later : (marks : Marks) → AreMarkedAtHand s marks → AreMarkedAtHand t marks
  marked_later marks is = by marks.time is
    where
      by : (time : Option Time) → IfSome time (λ _. OnEachTouched (IsAtHand s) (touches_in marks)) → IfSome time (λ _. OnEachTouched (IsAtHand t) (touches_in marks))
      by None is = tt
      by (Some time) is = record {
        object = each_later marks.object is.object;
        replaced = each_later marks.replaced is.replaced;
        parent = each_later marks.parent is.parent;
        new_parent = each_later marks.new_parent is.new_parent;
      }

  pub plan_later : (p : Plan) → IsPlanAtHand s p → IsPlanAtHand t p
  plan_later p is = record {
    first = stays_at_hand s t same keeps stays p.first.number is.first;
    next = some_stays_at_hand s t same keeps stays p.next is.next;
    last = some_stays_at_hand s t same keeps stays p.last is.last;
  }

-- ---- a plan

module _ (s t : InodeFile) (same : t.geometry ≡ s.geometry) (keeps : (n : ℕ) → HasRoomFor s n → HasRoomFor t n) (stays : (n : ℕ) → IsKnown s n → IsKnown t n) (loads : KeepsLoaded s t) where
  takes_later : (n : ℕ) (update : Update) → TakesUpdate s n update → TakesUpdate t n update
  takes_later n update takes = record {
    at_hand = stays_at_hand s t same keeps stays n takes.at_hand;
    fits = subst (λ (o : Option Object). FitsUpdate o update) (sym (loads n takes.at_hand.known)) takes.fits;
  }

  some_takes_later : (step : Option ObjectUpdate) → TakesSome s step → TakesSome t step
  some_takes_later None takes = tt
  some_takes_later (Some step) takes = takes_later step.number step.update takes

  -- memory has room for it still
  pub ready_later : (p : Plan) → IsPlanReady s p → IsPlanReady t p
  ready_later p ready = record {
    first = takes_later p.first.number p.first.update ready.first;
    next = some_takes_later p.next ready.next;
    last = some_takes_later p.last ready.last;
    next_apart = ready.next_apart;
    last_apart = ready.last_apart;
    apart = ready.apart;
  }

  knows_later : (edit : Edit) → KnowsEdited s edit → KnowsEdited t edit
  knows_later (write number offset bytes) knows = stays number knows
  knows_later (truncate number size) knows = stays number knows
  knows_later (set_file number mode size) knows = stays number knows
  knows_later (create number parent made name) knows = tt
  knows_later (link number parent name) knows = tt
  knows_later (remove_name parent name) knows = tt
  knows_later (rename parent name new_parent new_name) knows = tt
  knows_later (change_attributes number permissions modified) knows = tt

  some_room_later : (step : Option ObjectUpdate) (k : ℕ) → TakesSome s step → SomeRoom s step k → SomeRoom t step k
  some_room_later None k takes room = tt
  some_room_later (Some step) k takes room = subst (λ (o : Option Object). UpdateRoom o step.update k) (sym (loads step.number takes.at_hand.known)) room

  module _ (detail : Detail) (disk : ℕ → List ℕ) (settled : ℕ → Inode) where
    some_steps_later : (v w : Volume) (step : Option ObjectUpdate) → TakesSome s step → StepsSome detail disk settled s v step w → StepsSome detail disk settled t v step w
    some_steps_later v w None takes steps = steps
    some_steps_later v w (Some step) takes steps = steps_after detail disk settled s t v w step same (loads step.number takes.at_hand.known) steps

    -- and it does the same
    pub does_later : (v : Volume) (p : Plan) (edit : Edit) → IsPlanReady s p → DoesEditIn detail disk settled s v p edit → DoesEditIn detail disk settled t v p edit
    does_later v p edit ready does = record {
      between = does.between;
      second = does.second;
      first = some_steps_later v does.between (Some p.first) ready.first does.first;
      next = some_steps_later does.between does.second p.next ready.next does.next;
      last = some_steps_later does.second _ p.last ready.last does.last;
      next_beside = does.next_beside;
      last_beside = does.last_beside;
      beside = does.beside;
      firsts = does.firsts;
      nexts = does.nexts;
      lasts = does.lasts;
      first_room = some_room_later (Some p.first) does.firsts ready.first does.first_room;
      next_room = some_room_later p.next does.nexts ready.next does.next_room;
      last_room = some_room_later p.last does.lasts ready.last does.last_room;
      within = does.within;
      knows = knows_later edit does.knows;
    }
