-- Functions that tell what stands where a path leads, step by step.
use Rattle.std.proofs.Common.{◌≡◌, ◌≢◌, ◌<◌, ◌-◌, ℕ, Bool, List, [], ◌∷◌, length, inr, Option, Result, Ok, Err, IfErr, IfOk, IsTrue, arith, refl, subst}
use Rattle.std.proofs.lemmas.List.Elements.{All-get_or}
use Rattle.std.specs.Result.{IsErrAnd}
use Rattle.layout.specs.StateLimits.{limits_of}
use Rattle.model.specs.declared.limits.Limits.{Limits}
use Rattle.model.specs.Finding.{IsPlaceAt, here}
use Rattle.model.specs.Resolution.{Resolution}
use Rattle.model.specs.Trees.{Tree}
use Rattle.model.specs.Volumes.{Volume, IsVolume, tree_of}
use Rattle.model.specs.declared.errno.Errno.{Errno}
use Rattle.model.specs.declared.time.Time.{Time}
use Rattle.model.specs.declared.limits.TheConstants.{ROOT_NUMBER}
use Rattle.buffers.specs.Errors.{IsFault}
use Rattle.buffers.specs.declared.error.BlockError.{BlockError}
use Rattle.buffers.specs.declared.blocks.Blocks.{Ghosts}
use Rattle.inofile.specs.declared.inode_file.InodeFile.{InodeFile}
use Rattle.paths.specs.Ends.{EndsWell}
use Rattle.paths.specs.Numbers.{AreInodeNumbers, IsInodeNumber}
use Rattle.paths.specs.Places.{model_place_of, IsPlaceWithin}
use Rattle.paths.specs.Resolves.{LeadsUpNowhere, Resolves, ResolvesPlace}
use Rattle.paths.specs.Standing.{Looks}
use Rattle.paths.specs.Starts.{IsTargetWithin, TargetEndsWell, TellsTarget}
use Rattle.paths.specs.Steps.{found_in}
use Rattle.paths.specs.declared.lookup.Found.TheVariants as found
use Rattle.paths.specs.declared.place.Place.{Place}
use Rattle.paths.specs.declared.place.Place.TheVariants.{Directory, Entry, Missing, Refusal}
use Rattle.paths.specs.declared.place.Target.{Target}
use Rattle.paths.specs.declared.place.Target.TheVariants as target
use Rattle.paths.proofs.Looks.{looks_err, looks_ok}
use Rattle.records.specs.Failures.{read_outcome}
use Rattle.records.specs.Shown.{NeverDamaged, OnMounted}
use Rattle.records.specs.declared.failure.Failure.{Failure}
use Rattle.records.specs.declared.failure.Failure.TheVariants.{Read, Refused}
use Rattle.calls.specs.Leading.{LeadsAlong, LeadsTo, TellsWhere, led_of}
use Rattle.calls.specs.Preparing.{Answer, PreparesWith}
use Rattle.calls.specs.Refusals.{is_path_refusal}
use Rattle.calls.specs.declared.changed.Changing.{Changing}
use Rattle.calls.proofs.LeadLaws.{along_by, directory_no_link, leads_directory, leads_entry, leads_gap, leads_refusal}
use Rattle.calls.proofs.PrepareSteps.{carried, never_damaged, refuses}
use Rattle.calls.proofs.RefusalLaws.{walk_refusal}

-- what a call tells of a number
abbrev Told : Type 0
Told = Result (Result ℕ Errno) BlockError

leads_at : (limits : Limits) (v : Volume) → IsVolume limits v → (p : Place) (r : Resolution) → IsPlaceAt v (model_place_of p) r → LeadsTo v r (led_of p)
leads_at limits v volume (Directory trail) r at = leads_directory limits v volume trail r at
leads_at limits v volume (Entry trail name number) r at = leads_entry limits v volume trail name.items number r at
leads_at limits v volume (Missing trail name) r at = leads_gap v trail name.items r at
leads_at limits v volume (Refusal errno) r at = leads_refusal v errno r at

pub number_here : (inodes : ℕ) (trail : List ℕ) → ROOT_NUMBER < inodes → AreInodeNumbers inodes trail → IsInodeNumber inodes (here trail)
number_here inodes [] root all = (omega arith, root)
number_here inodes (x ∷ rest) root all = All-get_or (IsInodeNumber inodes) (x ∷ rest) (length (x ∷ rest) - 1) ROOT_NUMBER (omega arith) all

within_at : (inodes : ℕ) (p : Place) → ROOT_NUMBER < inodes → IsPlaceWithin inodes p → IfOk (led_of p) (IsInodeNumber inodes)
within_at inodes (Directory trail) root is = number_here inodes trail root is
within_at inodes (Entry trail name number) root is = is.1
within_at inodes (Missing trail name) root is = tt
within_at inodes (Refusal errno) root is = tt

own_at : (inodes : ℕ) (p : Place) → IsPlaceWithin inodes p → IfErr (led_of p) (λ e. IsTrue (is_path_refusal e))
own_at inodes (Directory trail) is = tt
own_at inodes (Entry trail name number) is = tt
own_at inodes (Missing trail name) is = refl
own_at inodes (Refusal errno) is = walk_refusal errno is

followed_at : (v : Volume) (follow : Bool) (p : Place) → EndsWell v follow (model_place_of p) → IsTrue follow → IfOk (led_of p) (λ n. found_in (v n) ≢ found.Link)
followed_at v follow (Directory trail) ends is = directory_no_link (found_in (v (here trail))) ends
followed_at v follow (Entry trail name number) ends is = ends is
followed_at v follow (Missing trail name) ends is = tt
followed_at v follow (Refusal errno) ends is = tt

-- what a target tells of what stands there
abbrev pub led_to : Target → Result ℕ Errno
led_to (target.Place p) = led_of p
led_to (target.Object n) = Ok n

leads_to_target : (limits : Limits) (t : Tree) (v : Volume) (follow : Bool) (text : List ℕ) → IsVolume limits v → (x : Target) → TellsTarget t v follow text x → LeadsAlong t v follow text (led_to x)
leads_to_target limits t v follow text volume (target.Place p) (r, reaches, at) = along_by t v follow text r (led_of p) reaches (leads_at limits v volume p r at)
leads_to_target limits t v follow text volume (target.Object n) is = inr is

within_target : (inodes : ℕ) (x : Target) → ROOT_NUMBER < inodes → IsTargetWithin inodes x → IfOk (led_to x) (IsInodeNumber inodes)
within_target inodes (target.Place p) root is = within_at inodes p root is
within_target inodes (target.Object n) root is = is

own_target : (inodes : ℕ) (x : Target) → IsTargetWithin inodes x → IfErr (led_to x) (λ e. IsTrue (is_path_refusal e))
own_target inodes (target.Place p) is = own_at inodes p is
own_target inodes (target.Object n) is = tt

followed_target : (v : Volume) (follow : Bool) (x : Target) → TargetEndsWell v follow x → IsTrue follow → IfOk (led_to x) (λ n. found_in (v n) ≢ found.Link)
followed_target v follow (target.Place p) ends is = followed_at v follow p ends is
followed_target v follow (target.Object n) ends is = ends is

module _ {B : Type 0} {G : Ghosts B} {a b : B} {s t : InodeFile} {follow : Bool} {answer : Limits → Tree → Volume → Result ℕ Errno → Type 0} where
  -- a step before has failed
  pub leads_nowhere : {X : Type 0} {e : BlockError} (q : Result ℕ Failure) → IsErrAnd q (λ f. f ≡ Read e)
      → Looks {T = X} G IsFault a b s t (Err e) → NeverDamaged {T = X} G a s (Err e) → TellsWhere G a b s t follow answer q
  leads_nowhere {e = e} q is looks sound = carried (TellsWhere G a b s t follow answer) q is (record {
    looks = looks_err (Err e) refl looks;
    within = tt;
    own = tt;
    leads = λ disk settled v table stands volume. tt;
    followed = λ disk settled v stands volume is. tt;
    damaged = never_damaged e sound;
  })

-- what stands where the text of a path leads
pub leads_by : {B : Type 0} {G : Ghosts B} {a b : B} {s t : InodeFile} {follow : Bool} {text : List ℕ} {x : Target} {q : Result ℕ Failure} → ROOT_NUMBER < s.geometry.inodes → LeadsUpNowhere text
    → Resolves G a b s t text follow (Ok x) → Ok (led_to x) ≡ read_outcome q → TellsWhere G a b s t follow (λ limits tree v. LeadsAlong tree v follow text) q
leads_by {G = G} {a = a} {b = b} {s = s} {t = t} {follow = follow} {text = text} {x = x} root level resolves is = record {
  looks = subst (Looks G IsFault a b s t) is (looks_ok resolves.looks);
  within = subst (λ (x : Told). IfOk x (λ r. IfOk r (IsInodeNumber s.geometry.inodes))) is (within_target s.geometry.inodes x root resolves.within);
  own = subst (λ (x : Told). IfOk x (λ r. IfErr r (λ e. IsTrue (is_path_refusal e)))) is (own_target s.geometry.inodes x resolves.within);
  leads = λ disk settled v table stands volume.
      subst (λ (y : Told). IfOk y (LeadsAlong (tree_of v table) v follow text)) is
      (leads_to_target (limits_of s.geometry) (tree_of v table) v follow text volume x (resolves.found disk settled v table stands volume level));
  followed = λ disk settled v stands volume follows.
      subst (λ (y : Told). IfOk y (λ r. IfOk r (λ n. found_in (v n) ≢ found.Link))) is (followed_target v follow x (resolves.ends disk settled v stands volume) follows);
  damaged = subst (NeverDamaged G a s) is (λ disk settled v stands bad. cc);
}

-- a place tells why nothing stands where a path leads, and the call is refused so
pub finds_none : {B T : Type 0} {changes : T → Option Changing} {now : Option Time} {G : Ghosts B} {a b : B} {s t : InodeFile} {P : Answer T} {follow : Bool} {text : List ℕ} {p : Place} {errno : Errno}
    → ResolvesPlace G a b s t text follow (Ok p) → LeadsUpNowhere text → led_of p ≡ Err errno
    → OnMounted G a s (λ v table. LeadsAlong (tree_of v table) v follow text (Err errno) → P (limits_of s.geometry) v table (Err errno))
    → PreparesWith changes now G a b s t P (Err (Refused errno))
finds_none {s = s} {follow = follow} {text = text} {p = p} resolves level is answers =
    refuses resolves.looks (subst (λ (r : Result ℕ Errno). IfErr r (λ e. IsTrue (is_path_refusal e))) is (own_at s.geometry.inodes p resolves.within))
    (λ disk settled v table stands volume mounted.
    answers disk settled v table stands volume mounted
    (subst (LeadsAlong (tree_of v table) v follow text) is
    (leads_to_target (limits_of s.geometry) (tree_of v table) v follow text volume (target.Place p) (resolves.found disk settled v table stands volume level))))
