-- What the definitions say of changes of a file's bytes, by what was found in a volume.
use Rattle.std.proofs.Common.{◌≡◌, ◌≤◌, ◌<◌, ◌+◌, ℕ, zero, suc, List, [], length, Bool, true, false, nat_lt, Option, Some, None, IsTrue, unwrap_or, refl, sym, ap, subst, ◌∙◌, inl, inr, arith}
use Rattle.std.proofs.Math.Path.{fun_ext}
use Rattle.std.proofs.lemmas.Bool.{cases_eq, cond-true, cond-false}
use Rattle.std.proofs.lemmas.Bool.Decides.{nat_tests}
use Rattle.model.specs.declared.limits.Limits.{Limits}
use Rattle.layout.specs.declared.kind.Kind.{Kind}
use Rattle.model.specs.Changing.{is_idle_size, sets_both, truncates_file}
use Rattle.model.specs.Changes.{ChangesTree, TakesFree}
use Rattle.model.specs.Descriptors.{puts}
use Rattle.model.specs.Edits.{contents, marked, with_bytes, with_mode, written}
use Rattle.model.specs.Laws.{RecordsChangeTrees}
use Rattle.model.specs.Paths.{is_empty}
use Rattle.model.specs.Records.{Applies, Change, applied, edited, marked_nodes, stamped, touches_of, with_file_bytes}
use Rattle.model.specs.Room.{nothing, logs, changes_size, puts_bytes}
use Rattle.model.specs.Touches.{Touches, touches_object}
use Rattle.model.specs.Trees.{Tree, Description}
use Rattle.model.specs.Volumes.{Node, directory_node, file_node, link_node, Volume, IsMounted, IsVolume, bytes_of_node, is_file_node, is_open, swept, swept_node, tree_of, with_node}
use Rattle.model.specs.declared.attributes.Touch.TheVariants.{Data}
use Rattle.model.specs.declared.errno.Errno.TheVariants.{EFBIG}
use Rattle.model.specs.declared.limits.TheConstants.{OPEN_FILES}
use Rattle.model.specs.declared.reply.Reply.TheVariants.{Done, Refused, Wrote}
use Rattle.model.specs.declared.time.Time.{Time}
use Rattle.records.specs.Contents.{bytes_after, mode_after, rewriting}
use Rattle.records.specs.Rewriting.{GoesOver}
use Rattle.records.specs.Steps.{with_given_mode}
use Rattle.records.specs.declared.contents.Rewrite.{Rewrite}
use Rattle.records.specs.declared.contents.Rewrite.TheVariants.{Write, Truncate, Set}
use Rattle.images.specs.Contents.{Content}
use Rattle.images.specs.Soundness.{Detail}
use Rattle.images.specs.Sizes.{StandsAsIn}
use Rattle.records.proofs.ContentLaws.{rewriting_applied}
use Rattle.records.proofs.KindLaws.{held_file}
use Rattle.model.proofs.MarkLemmas.{swept-marked}
use Rattle.model.proofs.ObjectLaws.{node_here, node_other}

-- ---- nothing is to be swept

swept_bytes : (f : List ℕ → List ℕ) (open_now : Bool) (o : Option Node) → swept_node open_now o ≡ o → swept_node open_now (with_file_bytes f o) ≡ with_file_bytes f o
swept_bytes f open_now None is = refl
swept_bytes f open_now (Some (directory_node attributes names)) is = refl
swept_bytes f true (Some (file_node attributes zero bytes)) is = refl
swept_bytes f false (Some (file_node attributes zero bytes)) is = absurd (none_some is)
  where
    none_some : {X Y : Type 0} {x : X} → None ≡ Some x → Y
    none_some e = cc
swept_bytes f open_now (Some (file_node attributes (suc links) bytes)) is = refl
swept_bytes f open_now (Some (link_node attributes text)) is = refl

-- and so of one that gets a mode
swept_mode : (mode : Option ℕ) (open_now : Bool) (o : Option Node) → swept_node open_now o ≡ o → swept_node open_now (with_given_mode mode o) ≡ with_given_mode mode o
swept_mode None open_now o is = is
swept_mode (Some mode) open_now None is = refl
swept_mode (Some mode) open_now (Some (directory_node attributes names)) is = refl
swept_mode (Some mode) true (Some (file_node attributes zero bytes)) is = refl
swept_mode (Some mode) false (Some (file_node attributes zero bytes)) is = absurd (none_some is)
  where
    none_some : {X Y : Type 0} {x : X} → None ≡ Some x → Y
    none_some e = cc
swept_mode (Some mode) open_now (Some (file_node attributes (suc links) bytes)) is = refl
swept_mode (Some mode) open_now (Some (link_node attributes text)) is = refl

module _ (v : Volume) (table : ℕ → Option Description) (n : ℕ) (f : List ℕ → List ℕ) (mode : Option ℕ) (is_swept : (k : ℕ) → swept table v k ≡ v k) where
  abbrev now : Option Node → Option Node
  now o = with_given_mode mode (with_file_bytes f o)

  abbrev changed : Volume
  changed = with_node n (now (v n)) v

  each : (k : ℕ) → swept table changed k ≡ changed k
  each k = elim (cases_eq k n) [
    | inl here ↦
        let same : changed k ≡ now (v k) = node_here n k (now (v n)) v here ∙ ap (λ (m : ℕ). now (v m)) (sym here) in
        subst (λ (o : Option Node). swept_node (is_open table OPEN_FILES k) o ≡ o) (sym same)
        (swept_mode mode (is_open table OPEN_FILES k) (with_file_bytes f (v k)) (swept_bytes f (is_open table OPEN_FILES k) (v k) (is_swept k)))
    | inr other ↦ subst (λ (o : Option Node). swept_node (is_open table OPEN_FILES k) o ≡ o) (sym (node_other n k (now (v n)) v other)) (is_swept k)
  ]

  bytes_unswept : swept table changed ≡ changed
  bytes_unswept = fun_ext {f = swept table changed} {g = changed} each

-- ---- the record and the tree

takes_free : (v : Volume) (n : ℕ) (rewrite : Rewrite) → TakesFree v (rewriting n rewrite)
takes_free v n (Write offset bytes) = tt
takes_free v n (Truncate size) = tt
takes_free v n (Set mode size) = tt

-- the tree with a mode at a number, where it is given
abbrev pub with_mode_given : Option ℕ → ℕ → Tree → Tree
with_mode_given None n t = t
with_mode_given (Some mode) n t = with_mode n mode t

-- the tree with these bytes, and with a mode, where it is given
abbrev rewritten_tree : ℕ → Rewrite → Tree → Tree
rewritten_tree n rewrite t = with_mode_given (mode_after rewrite) n (with_bytes n (bytes_after rewrite (contents t n)) t)

tree_after : (time : Option Time) (n : ℕ) (rewrite : Rewrite) (old new : Tree) → ChangesTree (stamped time (rewriting n rewrite)) old new → new ≡ marked time (touches_object Data n) (rewritten_tree n rewrite old)
tree_after time n (Write offset bytes) old new is = is
tree_after time n (Truncate size) old new is = is
tree_after time n (Set mode size) old new is = is

module _ (limits : Limits) (v : Volume) (table : ℕ → Option Description) (volume : IsVolume limits v) (mounted : IsMounted v table) (law : RecordsChangeTrees) (time : Option Time) (n : ℕ) where
  abbrev t : Tree
  t = tree_of v table

  module _ (rewrite : Rewrite) where
    abbrev change : Change
    change = stamped time (rewriting n rewrite)

    abbrev touches : Touches
    touches = touches_of (rewriting n rewrite) v

    abbrev w : Volume
    w = applied change v

    edited_whole : swept table (edited (rewriting n rewrite) v) ≡ edited (rewriting n rewrite) v
    edited_whole = subst (λ (w : Volume). swept table w ≡ w) (sym (rewriting_applied n rewrite v)) (bytes_unswept v table n (bytes_after rewrite) (mode_after rewrite) mounted.is_swept)

    whole : swept table w ≡ w
    whole = swept-marked time touches (edited (rewriting n rewrite) v) table ∙ ap (marked_nodes time touches) edited_whole

    told : Applies limits v change → IsMounted w table × ChangesTree change t (tree_of w table)
    told can = subst (λ (w : Volume). IsMounted w table × ChangesTree change t (tree_of w table)) whole (law limits v table change volume mounted can (takes_free v n rewrite))

    -- the record leads to the tree with these bytes
    pub rewritten : Applies limits v change → GoesOver limits v table change × (tree_of w table ≡ marked time (touches_object Data n) (rewritten_tree n rewrite t))
    rewritten can = ((can, (told can).0), tree_after time n rewrite t (tree_of w table) (told can).1)

-- ---- writing

module _ (limits : Limits) (time : Option Time) (t : Tree) (n offset : ℕ) (given : List ℕ) (also : Tree → Tree) where
  pub puts_nothing : is_empty given ≡ true → puts limits time t n offset given also (Wrote 0) t nothing
  puts_nothing none = rw none (refl, refl, refl)

  pub puts_too_much : is_empty given ≡ false → nat_lt limits.file_bytes (offset + length given) ≡ true → puts limits time t n offset given also (Refused EFBIG) t nothing
  puts_too_much some past = rw some (rw past (refl, refl, refl))

  pub puts_all : (new : Tree) → is_empty given ≡ false → nat_lt limits.file_bytes (offset + length given) ≡ false → new ≡ marked time (touches_object Data n) (with_bytes n (written offset given (contents t n)) t)
      → puts limits time t n offset given also (Wrote (length given)) (also new) (logs (puts_bytes (length (contents t n)) offset (length given)))
  puts_all new some within is = rw some (rw within (refl, ap also is, refl))

-- ---- a new size

module _ (time : Option Time) (t : Tree) (n size : ℕ) where
  pub truncates_nothing : is_idle_size time n size t ≡ true → truncates_file time t n size Done t nothing
  truncates_nothing same = (
    refl,
    sym (cond-true (is_idle_size time n size t) t _ same),
    sym (cond-true (is_idle_size time n size t) nothing _ same),
  )

  pub truncates_all : (new : Tree) → is_idle_size time n size t ≡ false → new ≡ marked time (touches_object Data n) (with_bytes n (bytes_after (Truncate size) (contents t n)) t)
      → truncates_file time t n size Done new (logs (changes_size (length (contents t n)) size))
  truncates_all new other is = (
    refl,
    is ∙ sym (cond-false (is_idle_size time n size t) t _ other),
    sym (cond-false (is_idle_size time n size t) nothing _ other),
  )

  -- both

  pub sets_all : (mode : ℕ) (new : Tree) → is_idle_size time n size t ≡ false → new ≡ marked time (touches_object Data n) (with_mode n mode (with_bytes n (bytes_after (Set mode size) (contents t n)) t))
      → sets_both time t n mode size Done new (logs (changes_size (length (contents t n)) size))
  sets_all mode new other is = rw other (refl, is, refl)

-- ---- tests

pub filled : (xs : List ℕ) → is_empty xs ≡ false → 1 ≤ length xs
filled xs some = grind (arith, nat_tests)

pub some_bytes : (xs : List ℕ) → 1 ≤ length xs → is_empty xs ≡ false
some_bytes xs some = grind (arith, nat_tests)

pub past_limit : (m n : ℕ) → m < n → nat_lt m n ≡ true
past_limit m n lt = grind (arith, nat_tests)

-- a file in memory has as many bytes as in the volume
pub file_size : (detail : Detail) (k : Kind) (inodes : ℕ) (c : Content) (found : Option Node) → StandsAsIn detail k inodes c found → IsTrue (is_file_node found) → c.size ≡ length (unwrap_or (bytes_of_node found) [])
file_size detail k inodes c found stands is =
    let held = held_file detail k inodes c found stands is in
    sym (ap (λ (o : Option Node). length (unwrap_or (bytes_of_node o) [])) held.2 ∙ held.1)
