-- Names of a directory, changed one after the other.
use Rattle.std.proofs.Common.{◌≡◌, ◌≤◌, ℕ, List, IfOk, IfSome, Option, Some, None, Result, Ok, Err, Bool, true, false, inl, inr, bytes_eq, if◌then◌else◌, refl, sym, ap, subst, ◌∙◌, arith}
use Rattle.std.specs.Result.{IsErrAnd, IsErrOf}
use Rattle.std.proofs.Math.Path.{fun_ext}
use Rattle.std.proofs.lemmas.Bool.{cases_Bool, cond-false, cond-true}
use Rattle.std.proofs.lemmas.Slice.Eq.{bytes_eq-Decides}
use Rattle.std.proofs.lemmas.Result.{IfOk-weaker}
use Rattle.model.specs.declared.limits.Limits.{Limits}
use Rattle.layout.specs.DirectoryNames.{NameMap}
use Rattle.model.specs.Paths.{Name}
use Rattle.dirs.specs.Directory.{with_name}
use Rattle.dirs.specs.Edits.{HasEditedNames}
use Rattle.entries.specs.Known.{Knows}
use Rattle.entries.specs.declared.known.Known.{Known}
use Rattle.dirs.specs.Room.{piece_count}
use Rattle.dirs.specs.declared.edit.Edit.{Edit}
use Rattle.buffers.specs.Reads.{ReadsBlocks}
use Rattle.buffers.specs.declared.blocks.Blocks.{Ghosts}
use Rattle.buffers.specs.Errors.{IsFault}
use Rattle.blocktree.specs.Trees.{IsSoundAt}
use Rattle.buffers.specs.declared.error.BlockError.{BlockError}
use Rattle.buffers.specs.declared.error.BlockError.TheVariants.{Damaged}
use Rattle.inode.specs.Files.{IsSameFile, file_block}
use Rattle.inode.specs.declared.file.File.{File}
use Rattle.inode.specs.declared.object.Object.{Object}
use Rattle.inofile.specs.Objects.{StaysKnown}
use Rattle.paths.proofs.Looks.{reads_more}
use Rattle.records.specs.Naming.{EditsFile, EditsNames}
use Rattle.records.specs.declared.naming.NameEdit.{NameEdit}
use Rattle.records.specs.declared.naming.NameEdit.TheVariants as edits
use Rattle.records.specs.Entering.{HasPlace}
use Rattle.layout.specs.declared.entry.Entry.{Entry}
use Rattle.paths.proofs.LookingUp.{same_error}
use Rattle.records.proofs.StandLaws.{reads_err}
use Rattle.inode.proofs.BaseLaws.{still_same}

-- a name that was taken away isn't there
pub name_gone : (x : Name) (names : NameMap) → with_name x None names x ≡ None
name_gone x names = cond-true (bytes_eq x x) None (names x) ((bytes_eq-Decides x x).1 refl)

-- a name that is taken away and then stands for something does so at once
pub name_replaced : (y : Name) (to : Option ℕ) (names : NameMap) → with_name y to (with_name y None names) ≡ with_name y to names
name_replaced y to names = fun_ext {f = with_name y to (with_name y None names)} {g = with_name y to names} each
  where
    each : (z : Name) → with_name y to (with_name y None names) z ≡ with_name y to names z
    each z = elim (bytes_eq z y) as (λ (b : Bool). (if b then to else (if b then None else names z)) ≡ (if b then to else names z)) [ true ↦ refl | false ↦ refl ]

-- what leads to a file's blocks is in the grammar still
pub sound_still : (a b : File) (count other : ℕ) (disk : ℕ → List ℕ) → IsSameFile a b → other ≡ count → ((i : ℕ) → IsSoundAt count disk a.tree i) → (i : ℕ) → IsSoundAt other disk b.tree i
sound_still a b count other disk same e sound i = subst (λ (n : ℕ). IsSoundAt n disk b.tree i) (sym e) (same.sound count disk i (sound i))

-- a name that isn't there needn't be taken away
pub none_gone : (y : Name) (names : NameMap) → names y ≡ None → with_name y None names ≡ names
none_gone y names gone = fun_ext {f = with_name y None names} {g = names} each
  where
    each : (z : Name) → with_name y None names z ≡ names z
    each z = elim (cases_Bool (bytes_eq z y)) [
      | inl same ↦ cond-true (bytes_eq z y) None (names z) same ∙ sym (ap names ((bytes_eq-Decides z y).0 same) ∙ gone)
      | inr other ↦ cond-false (bytes_eq z y) None (names z) other
    ]

-- two names go in either order
pub names_gone : (x y : Name) (names : NameMap) → with_name y None (with_name x None names) ≡ with_name x None (with_name y None names)
names_gone x y names = fun_ext {f = with_name y None (with_name x None names)} {g = with_name x None (with_name y None names)} (λ z. either_order (bytes_eq z y) (bytes_eq z x) (names z))
  where
    either_order : (a b : Bool) (o : Option ℕ) → (if a then None else (if b then None else o)) ≡ (if b then None else (if a then None else o))
    either_order true true o = refl
    either_order true false o = refl
    either_order false true o = refl
    either_order false false o = refl

-- ---- edits, step by step

-- more blocks may be changed
few_more : {low most : ℕ} → low ≤ most → (r : Result (Option Edit) BlockError) → IfOk r (λ e. IfSome e (λ x. piece_count x ≤ low)) → IfOk r (λ e. IfSome e (λ x. piece_count x ≤ most))
few_more few (Ok (Some edit)) is = omega (arith, few, is)
few_more few (Ok None) is = tt
few_more few (Err e) is = tt

module _ {B : Type 0} {Had : (ℕ → List ℕ) → NameMap → Type 0} {G : Ghosts B} {a b : B} {limits : Limits} {file new : File} {known : Known} {wanted : NameEdit} {most : ℕ} where
  -- a step before has failed
  pub edit_stops : {T : Type 0} {e : BlockError} (q : Result (Option Edit) BlockError) → IsErrAnd q (λ f. f ≡ e) → ReadsBlocks {T = T} G IsFault a b (Err e) → IsSameFile file new
      → ((disk : ℕ → List ℕ) (names : NameMap) → G.Shows a disk → IsErrOf {T = T} {E = BlockError} (Err e) Damaged → Had disk names → ((i : ℕ) → IsSoundAt (G.count a) disk file.tree i) → ⊥)
      → EditsFile Had most G a b limits file new known wanted q
  edit_stops (Ok edit) is reads same sound = absurd is
  edit_stops {e = e} (Err f) is reads same sound = record {
    reads = reads_err (Err f) is reads;
    same = same;
    fits = tt;
    pieces = tt;
    edited = λ disk names shows had. tt;
    damaged = λ disk names shows bad had grammar. sound disk names shows (same_error (Err f) e Damaged is bad) had grammar;
  }

module _ {B T : Type 0} {Had Then : (ℕ → List ℕ) → NameMap → Type 0} {G : Ghosts B} {a b c : B} {limits : Limits} {file mid new : File} {known : Known} {wanted more : NameEdit} {x : T} {r : Result (Option Edit) BlockError} {low most : ℕ} where
  -- another function goes on, with other names, behind blocks that were read
  pub edit_follows : ReadsBlocks {E = BlockError} G IsFault a b (Ok x) → IsSameFile file mid → EditsFile Then low G b c limits mid new known more r → low ≤ most → (f : NameMap → NameMap)
      → ((disk : ℕ → List ℕ) (names : NameMap) → G.Shows a disk → Had disk names → Then disk (f names))
      → ((disk : ℕ → List ℕ) (names : NameMap) → G.Shows a disk → Had disk names → (o : Option Edit) → EditsNames limits disk new known more (f names) o → EditsNames limits disk new known wanted names o)
      → EditsFile Had most G a c limits file new known wanted r
  edit_follows reads same last few f so turns = record {
    reads = reads_more r reads last.reads;
    same = still_same file mid new same last.same;
    fits = last.fits;
    pieces = few_more few r last.pieces;
    edited = λ disk names shows had.
        IfOk-weaker r (EditsNames limits disk new known more (f names)) (EditsNames limits disk new known wanted names) (turns disk names shows had)
        (last.edited disk (f names) (reads.same disk shows) (so disk names shows had));
    damaged = λ disk names shows is had grammar.
        last.damaged disk (f names) (reads.same disk shows) is (so disk names shows had)
        (sound_still file mid (G.count a) (G.count b) disk same reads.count grammar);
  }

-- the same edit of names that are had in another way
pub edit_had : {B : Type 0} {Had Then : (ℕ → List ℕ) → NameMap → Type 0} {G : Ghosts B} {a b : B} {limits : Limits} {file new : File} {known : Known} {wanted more : NameEdit} {r : Result (Option Edit) BlockError} {low most : ℕ}
    → wanted ≡ more → EditsFile Then low G a b limits file new known more r → low ≤ most → ((disk : ℕ → List ℕ) (names : NameMap) → Had disk names → Then disk names) → EditsFile Had most G a b limits file new known wanted r
edit_had {limits = limits} {new = new} {r = r} same edits few so = record {
  reads = edits.reads;
  same = edits.same;
  fits = edits.fits;
  pieces = few_more few r edits.pieces;
  edited = λ disk names shows had. rw same (edits.edited disk names shows (so disk names had));
  damaged = λ disk names shows is had grammar. edits.damaged disk names shows is (so disk names had) grammar;
}

-- a name that goes, and one that stands for something else, are a move
pub moved_names : (limits : Limits) (disk : ℕ → List ℕ) (file : File) (known : Known) (old entry : Entry) (names : NameMap) (o : Option Edit)
    → EditsNames limits disk file known (edits.Replace entry) (with_name old.name.now None names) o → EditsNames limits disk file known (edits.Move old.name entry) names o
moved_names limits disk file known old entry names (Some edit) is = (subst (HasPlace limits) (names_gone old.name.now entry.name.now names) is.0, is.1, is.2)
moved_names limits disk file known old entry names None never = λ place. never (subst (HasPlace limits) (sym (names_gone old.name.now entry.name.now names)) place)

-- a name that goes, and is one more then, is replaced
pub replaced_names : (limits : Limits) (disk : ℕ → List ℕ) (file : File) (known : Known) (entry : Entry) (names : NameMap) (o : Option Edit)
    → EditsNames limits disk file known (edits.Add entry) (with_name entry.name.now None names) o → EditsNames limits disk file known (edits.Replace entry) names o
replaced_names limits disk file known entry names (Some edit) is = (is.0.place, subst (HasEditedNames limits.inodes disk file edit) (name_replaced entry.name.now (Some entry.number) names) is.1, is.2)
replaced_names limits disk file known entry names None never = λ place. never (record { missing = name_gone entry.name.now names; place = place })

-- ---- what is known of a directory's blocks

-- what is known anew is so, whatever was known
pub known_anew : (inodes : ℕ) (disk : ℕ → List ℕ) (o : Option Object) (old after : Object) → o ≡ Some old → Knows inodes (file_block disk after.file) after.known → StaysKnown inodes disk o (Some after)
known_anew inodes disk o old after is knows = subst (λ (x : Option Object). StaysKnown inodes disk x (Some after)) (sym is) (λ was. knows)
