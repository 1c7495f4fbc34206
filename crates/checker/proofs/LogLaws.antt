-- Records that were replayed, as the log has them.
use Rattle.std.proofs.Common.{◌≡◌, ◌⊎◌, ◌∙◌, ◌<◌, ◌≤◌, ◌^◌, ℕ, List, [], ◌∷◌, ◌++◌, Result, Ok, Err, length, length-append, arith, ◌+◌, ◌*◌, refl, sym, ap, subst, inl, inr}
use Rattle.std.specs.Prelude.{All, IfErr, IsSome, MatchResult}
use Rattle.std.specs.Result.{IsErrAnd}
use Rattle.std.proofs.lemmas.List.Elements.{All-cons, All-head, All-tail}
use Rattle.layout.specs.StateLimits.{limits_of}
use Rattle.buffers.specs.declared.error.BlockError.{BlockError}
use Rattle.buffers.specs.declared.error.BlockError.TheVariants as errors
use Rattle.layout.specs.Limits.{Sizes}
use Rattle.layout.specs.Places.{Blocks}
use Rattle.layout.specs.Log.{HoldsBodies, LogHolds, record_of}
use Rattle.layout.specs.Record.{Change, IsChange}
use Rattle.layout.specs.declared.root.Root.{Root}
use Rattle.model.specs.declared.limits.Limits.{Limits}
use Rattle.model.specs.Records.{applied, cost_of_all, count_orphans, pledged_for}
use Rattle.model.specs.Volumes.{IsGraph, Volume}
use Rattle.images.specs.Contents.{tree_contents}
use Rattle.images.specs.Faults.{HasLog, IsFaultless}
use Rattle.images.specs.Replaying.{ReplaysWithin}
use Rattle.images.specs.Nodes.{held}
use Rattle.images.specs.Roots.{Whole, whole}
use Rattle.images.specs.Sizes.{HoldsVolumeIn}
use Rattle.images.specs.Soundness.{by_sizes}
use Rattle.oplog.specs.LogEnd.{all_bodies}
use Rattle.oplog.specs.SavedLog.{HoldsLeaving, Saved, TellsLog, end_of}
use Rattle.inofile.specs.Volumes.{IsVolumeIn}
use Rattle.inofile.specs.declared.inode_file.InodeFile.{InodeFile}
use Rattle.loading.specs.Images.{AreInodesIn, inodes_of}
use Rattle.model.specs.declared.limits.TheConstants.{FIRST_NUMBER, ROOT_NUMBER}
use Rattle.replay.specs.Volumes.{AppliesIn, HasVolumeIn, LeadTo, ReplaysIn, SpellsRecord, bodies_of}
use Rattle.replay.proofs.RecordLaws.{none_behind, one_in_front}
use Rattle.replay.proofs.SavedLaws.{LeadOn, costs_joined, end_half, joined_bodies, lead_on}
use Rattle.checker.specs.Checks.{Passes}
use Rattle.checker.specs.Errors.{IsCheckEndFault, OrFault}
use Rattle.checker.specs.Findings.{IsFindingUnder}
use Rattle.checker.specs.Logs.{IsLogged, IsRecordFault, TellsRecords}
use Rattle.checker.specs.declared.error.CheckEnd.{CheckEnd}
use Rattle.checker.specs.declared.error.CheckEnd.TheVariants as halts
use Rattle.checker.specs.declared.fault.Fault.{Fault}
use Rattle.checker.specs.declared.fault.TreeName.TheVariants.{Image}
use Rattle.checker.specs.declared.log.Logged.{Logged}

-- a record in front of others that lead on
pub in_front : (limits : Limits) (rest body after : List ℕ) (change : Change) (more : List Change) (now w : Volume) → length body < 2 ^ 32 → rest ≡ record_of body ++ after → SpellsRecord limits.has_attributes body change
    → AppliesIn by_sizes limits now change → LeadTo by_sizes limits after more (applied change now) w → LeadTo by_sizes limits rest (change ∷ more) now w
in_front limits rest body after change more now w short is spells applies leads = record {
  are = All-cons (IsChange limits.has_attributes) change more spells.is leads.are;
  held = (after, subst (λ (b : List ℕ). length b < 2 ^ 32) spells.spelled short, is ∙ ap (λ (b : List ℕ). record_of b ++ after) spells.spelled, leads.held);
  replays = (applies, leads.replays);
}

-- how many bytes are left behind the bodies
leaving : (bodies : List (List ℕ)) (records : List ℕ) → HoldsBodies records bodies → (left : ℕ) × HoldsLeaving records bodies left
leaving [] records held = (length records, none_behind records held)
leaving (body ∷ bodies) records (after, short, is, held) =
    let more = leaving bodies after held in
    (more.0, one_in_front body records after bodies more.0 short is more.1)

-- records one after the other
within_more : (limits : Limits) (one two : List Change) (v mid w : Volume) → ReplaysIn by_sizes limits v one mid → ReplaysIn by_sizes limits mid two w → ReplaysWithin limits v (one ++ two) w
within_more limits [] [] v mid w first second = second ∙ first
within_more limits [] (c ∷ two) v mid w first second =
    let on = subst (λ (u : Volume). ReplaysIn by_sizes limits u (c ∷ two) w) first second in
    (on.0, within_more limits [] two (applied c v) (applied c v) w refl on.1)
within_more limits (c ∷ one) two v mid w first second = (first.0, within_more limits one two (applied c v) mid w first.1 second)

all_more : (P : Change → Type 0) (one two : List Change) → All P one → All P two → All P (one ++ two)
all_more P [] two first second = second
all_more P (c ∷ one) two first second = All-cons P c (one ++ two) (All-head P c one first) (all_more P one two (All-tail P c one first) second)

-- what was saved, over a root
module _ (r : Root) (w : Whole) (nvram : List ℕ) (saved : Saved) (half : saved.half ≡ r.geometry.half) (generation : saved.generation ≡ r.generation) (tells : TellsLog nvram saved)
    (v : Volume) (holds : HoldsVolumeIn by_sizes r.geometry.inodes (tree_contents w.active) v) where
  pub has_log : (one two : List Change) (mid last : Volume) → LeadTo by_sizes (limits_of r.geometry) saved.first.records one v mid → LeadTo by_sizes (limits_of r.geometry) saved.second.records two mid last
      → (log : HasLog r w nvram (one ++ two)) × (log.first ≡ v)
  has_log one two mid last leads leads_on =
      let first = leaving (bodies_of one) saved.first.records leads.held in
      let second = leaving (bodies_of two) saved.second.records leads_on.held in
      let stands = tells.ends (bodies_of one) (bodies_of two) first.0 second.0 first.1 second.1 in
      let all : all_bodies stands.bodies ≡ bodies_of (one ++ two) = stands.all ∙ sym (joined_bodies (one ++ two) one two refl) in (
        record {
          first = v;
          last = last;
          holds = holds;
          log = record {
            are = all_more (IsChange (limits_of r.geometry).has_attributes) one two leads.are leads_on.are;
            log = subst (λ (n : ℕ). LogHolds n r.generation nvram (bodies_of (one ++ two))) (end_half saved first.0 second.0 ∙ half)
                (subst (λ (n : ℕ). LogHolds (end_of saved first.0 second.0).half n nvram (bodies_of (one ++ two))) generation
                (subst (LogHolds (end_of saved first.0 second.0).half saved.generation nvram) all stands.stands.holds));
          };
          replays = within_more (limits_of r.geometry) one two v mid last leads.replays leads_on.replays;
        },
        refl,
      )

  -- what both halves tell is told of the log
  pub is_logged : (one two : List Change) (mid last : Volume) (orphans : ℕ) (l a b : Logged)
      → LeadTo by_sizes (limits_of r.geometry) saved.first.records one v mid
      → LeadTo by_sizes (limits_of r.geometry) saved.second.records two mid last
      → orphans ≡ count_orphans r.geometry.inodes v
      → a.records ≡ length one → b.records ≡ length two
      → a.pledged ≡ cost_of_all (limits_of r.geometry).costs v one → b.pledged ≡ cost_of_all (limits_of r.geometry).costs mid two
      → l.records ≡ a.records + b.records → l.pledged ≡ 4 * orphans + a.pledged + b.pledged
      → IsLogged r w nvram l
  is_logged one two mid last orphans l a b leads leads_on counted few more cost other records pledged =
      let has = has_log one two mid last leads leads_on in
      let all = costs_joined by_sizes (limits_of r.geometry) (limits_of r.geometry).costs one two v mid leads.replays in record {
        changes = one ++ two;
        log = has.0;
        records_are = omega (arith, records, few, more, length-append one two);
        pledged_is =
            let is : l.pledged ≡ pledged_for (limits_of r.geometry) v (one ++ two) =
            omega (arith, pledged, counted, cost, other, all) in
            subst (λ (u : Volume). l.pledged ≡ pledged_for (limits_of r.geometry) u (one ++ two))
            (sym has.1) is;
      }

pub log_leads : (r : Root) (w : Whole) (nvram : List ℕ) (saved : Saved) → saved.half ≡ r.geometry.half → saved.generation ≡ r.generation → TellsLog nvram saved
    → (changes : List Change) (log : HasLog r w nvram changes) → LeadOn by_sizes (limits_of r.geometry) saved.first.records saved.second.records changes log.first log.last
log_leads r w nvram saved half generation tells changes log = lead_on by_sizes (limits_of r.geometry) nvram saved changes log.first log.last tells (record {
  are = log.log.are;
  held = subst (λ (n : ℕ). LogHolds n saved.generation nvram (bodies_of changes)) (sym half)
      (subst (λ (n : ℕ). LogHolds r.geometry.half n nvram (bodies_of changes)) (sym generation) log.log.log);
  replays = log.replays;
})

-- ---- what was loaded

pub loaded : {T : Type 0} (P : T → Type 0) (Q : BlockError → Type 0) (fault : Fault) (read : Result T BlockError) (x : T) → OrFault fault read (Ok x) → MatchResult read P Q → P x
loaded P Q fault (Ok y) x is told = (let same : y ≡ x = cc in subst P same told)
loaded P Q fault (Err e) x is told = absurd (cc)

-- where memory ran out or a device call failed, nothing is told
pub not_loaded : {T U : Type 0} (P : T → Type 0) (Is : U → Type 0) (Found : Fault → Type 0) (fault : Fault) (read : Result T BlockError) (h : CheckEnd) (q : Result U CheckEnd)
    → IsErrAnd q (λ f. f ≡ h) → OrFault fault read (Err h) → MatchResult read P (λ e. (e ≡ errors.NoMemory) ⊎ (e ≡ errors.Device)) → Passes Is Found q
not_loaded P Is Found fault (Ok y) h q passed is told = absurd (cc (is))
not_loaded P Is Found fault (Err e) h (Ok y) passed is told = absurd passed
not_loaded P Is Found fault (Err e) h (Err halts.NoMemory) passed is told = tt
not_loaded P Is Found fault (Err e) h (Err halts.Device) passed is told = tt
not_loaded P Is Found fault (Err errors.NoMemory) h (Err (halts.Fault f)) passed is told = absurd (cc (passed, is))
not_loaded P Is Found fault (Err errors.Device) h (Err (halts.Fault f)) passed is told = absurd (cc (passed, is))
not_loaded P Is Found fault (Err errors.Damaged) h (Err (halts.Fault f)) passed is (inl memory) = absurd (cc)
not_loaded P Is Found fault (Err errors.Damaged) h (Err (halts.Fault f)) passed is (inr device) = absurd (cc)

-- a device call failed where a read says so
pub load_device : {T Grown : Type 0} (fault : Fault) (read : Result T BlockError) (h : CheckEnd) → OrFault fault read (Err h) → IfErr read (λ e. e ≡ errors.Device → Grown) → IsCheckEndFault h → Grown
load_device fault (Ok y) h is told failed = absurd (cc (is))
load_device fault (Err errors.NoMemory) h is told failed = absurd (cc (is, failed))
load_device fault (Err errors.Device) h is told failed = told refl
load_device fault (Err errors.Damaged) h is told failed = absurd (cc (is, failed))

-- memory that was loaded under a root stands for the volume of its tree
pub has_volume : (disk : Blocks) (r : Root) (count : ℕ) (inodes : InodeFile) (v : Volume) → count ≡ r.geometry.blocks → AreInodesIn by_sizes disk r.version r.geometry (whole disk r).active inodes
    → HoldsVolumeIn by_sizes r.geometry.inodes (tree_contents (whole disk r).active) v → IsGraph v
    → ((n : ℕ) → IsSome (v n) → (n ≡ ROOT_NUMBER) ⊎ ((FIRST_NUMBER ≤ n) × (n < r.geometry.inodes))) → HasVolumeIn by_sizes count disk (inodes_of (whole disk r).active) inodes v
has_volume disk r count inodes v is are holds graph numbers = record {
  memory = subst (λ (n : ℕ). IsVolumeIn by_sizes n disk (inodes_of (whole disk r).active) inodes v) (sym is) (are.volume v holds);
  volume = record {
    graph = graph;
    numbers = subst (λ (s : Sizes). (n : ℕ) → IsSome (v n) → (n ≡ ROOT_NUMBER) ⊎ ((FIRST_NUMBER ≤ n) × (n < s.inodes))) (sym are.geometry) numbers;
  };
}

-- ---- a half that has a fault

pub failed : (r : Root) (w : Whole) (nvram : List ℕ) (q : Result Logged CheckEnd) (h : CheckEnd)
    → IsFaultless r.geometry w.active → IsErrAnd q (λ f. f ≡ h)
    → Passes {T = Logged} (λ _. Unit {0}) IsRecordFault (Err h)
    → ((changes : List Change) → HasLog r w nvram changes → Passes {T = Logged} (λ _. Unit {0}) (λ _. ⊥) (Err h)) → TellsRecords r w nvram q
failed r w nvram (Ok count) h faultless passed faults refutes = absurd passed
failed r w nvram (Err halts.NoMemory) h faultless passed faults refutes = tt
failed r w nvram (Err halts.Device) h faultless passed faults refutes = tt
failed r w nvram (Err (halts.Fault fault)) h faultless passed faults refutes =
    let is : IsRecordFault fault = subst (λ (e : CheckEnd). Passes {T = Logged} (λ _. Unit {0}) IsRecordFault (Err e)) (sym passed) faults in
    subst (IsFindingUnder r w nvram Image) (sym is.2)
    (faultless, λ changes log. subst (λ (e : CheckEnd). Passes {T = Logged} (λ _. Unit {0}) (λ _. ⊥) (Err e)) (sym passed) (refutes changes log))

-- records by the sizes and the bytes that they are read by
pub lead_over : (s t : Sizes) (records bytes : List ℕ) (changes : List Change) (v w : Volume) → s ≡ t → records ≡ bytes → LeadTo by_sizes (limits_of t) bytes changes v w → LeadTo by_sizes (limits_of s) records changes v w
lead_over s t records bytes changes v w sizes same leads =
    subst (λ (x : Sizes). LeadTo by_sizes (limits_of x) records changes v w) (sym sizes) (subst (λ (b : List ℕ). LeadTo by_sizes (limits_of t) b changes v w) (sym same) leads)

-- what is true of a fault's answer says nothing of other ones
pub refuted : (Is : Logged → Type 0) (h : CheckEnd) → Passes Is (λ _. ⊥) (Err h)
    → Passes {T = Logged} (λ _. Unit {0}) (λ _. ⊥) (Err h)
refuted Is halts.NoMemory told = tt
refuted Is halts.Device told = tt
refuted Is (halts.Fault fault) told = told
