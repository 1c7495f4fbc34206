-- A replayed volume beside the running one: each record applies to both, and at the end both are the same.
use Rattle.std.proofs.Common.{◌≡◌, ◌⊎◌, inl, inr, ℕ, zero, suc, ◌==◌, List, Bool, true, false, Option, Some, None, is_some, IsSome, refl, sym, ap, subst, ◌∙◌}
use Rattle.std.specs.Prelude.{[], length, unwrap_or, if◌then◌else◌, IsTrue, IsFalse}
use Rattle.std.proofs.Math.Path.{fun_ext}
use Rattle.std.proofs.lemmas.Bool.{false≢true}
use Rattle.model.specs.declared.limits.Limits.{Limits}
use Rattle.model.specs.declared.attributes.Touch.TheVariants.{Status}
use Rattle.model.specs.declared.limits.TheConstants.{OPEN_FILES}
use Rattle.model.specs.Attributes.{set_given, set_mode}
use Rattle.model.specs.Counting.{Counts}
use Rattle.model.specs.Paths.{Name}
use Rattle.model.specs.Edits.{written, resized}
use Rattle.model.specs.Touches.{Touches, touches_entry, touches_move}
use Rattle.model.specs.Trees.{Description}
use Rattle.model.specs.Volumes.{Node, directory_node, file_node, link_node, Volume, Entries, bytes_of_node, names_in, entries, with_node, set_name, with_entry, is_file_node, is_directory_node, is_orphan, with_name_less, with_name_more, released, is_open, swept_node, swept}
use Rattle.model.specs.Laws.{ReplayFollows, ReplayEndsSame, ReplaysCostTheSame}
use Rattle.model.specs.Room.{puts_bytes, changes_size}
use Rattle.model.specs.Records.{Change, Edit, create, link, remove_name, rename, write, truncate, change_attributes, set_file, node_of, with_file_bytes, with_node_attributes, with_size, edited, touches_of, marked_nodes, applied, IsBelow, TakesName, IsEmpty, is_vacant, CanReplace, TakesMode, CanEdit, Applies, without_orphans, Extends, work_by}
use Rattle.model.proofs.MarkLemmas.{attributes_vacant, extends-marked}
use Rattle.model.proofs.MoveLemmas.{takes_there}
use Rattle.model.proofs.OptionLaws.{some_or_none}

-- what has no object has no names, whatever stands for it
vacant_names : (o : Option Node) (x : Name) → IsTrue (is_vacant o) → names_in o x ≡ None
vacant_names None x vacant = refl
vacant_names (Some (directory_node attributes names)) x vacant = absurd (false≢true vacant)
vacant_names (Some (file_node attributes links bytes)) x vacant = refl
vacant_names (Some (link_node attributes text)) x vacant = refl

orphan_vacant : (o : Option Node) → IsTrue (is_orphan o) → IsTrue (is_vacant o)
orphan_vacant None orphans = refl
orphan_vacant (Some o) orphans = orphans

module _ (v w : Volume) (extends : Extends v w) where
  same_names : (d : ℕ) (x : Name) → entries w d x ≡ entries v d x
  same_names d x =
      elim (some_or_none (v d)) [
        | inl some ↦ ap (λ o. names_in o x) (extends.kept d some)
        | inr none ↦ vacant_names (w d) x (extends.rest d none) ∙ ap (λ o. names_in o x) (sym none)
      ]

  pub same_entries : entries w ≡ entries v
  same_entries = fun_ext {f = entries w} {g = entries v} (λ d. fun_ext (λ x. same_names d x))

  kept_by : (test : Option Node → Bool) → IsFalse (test None) → (n : ℕ) → IsTrue (test (v n)) → w n ≡ v n
  kept_by test none n is =
      elim (some_or_none (v n)) [
        | inl some ↦ extends.kept n some
        | inr nothing ↦ absurd (false≢true (sym none ∙ ap test (sym nothing) ∙ is))
      ]

  file_kept : (n : ℕ) → IsTrue (is_file_node (v n)) → w n ≡ v n
  file_kept = kept_by is_file_node refl

  directory_kept : (n : ℕ) → IsTrue (is_directory_node (v n)) → w n ≡ v n
  directory_kept = kept_by is_directory_node refl

  still_directory : (n : ℕ) → IsTrue (is_directory_node (v n)) → IsTrue (is_directory_node (w n))
  still_directory n is = ap is_directory_node (directory_kept n is) ∙ is

  takes_too : (limits : Limits) (d : ℕ) (x : Name) → TakesName limits v d x → TakesName limits w d x
  takes_too limits d x takes = record {
    directory = still_directory d takes.directory;
    missing = same_names d x ∙ takes.missing;
    name = takes.name;
    count = takes.count;
    counts = subst (λ (e : Entries). Counts (λ y. IsSome (e d y)) takes.count) (sym same_entries) takes.counts;
    room = takes.room;
  }

  vacant_too : (n : ℕ) → IsTrue (is_vacant (v n)) → IsTrue (is_vacant (w n))
  vacant_too n vacant =
      elim (some_or_none (v n)) [
        | inl some ↦ ap is_vacant (extends.kept n some) ∙ vacant
        | inr none ↦ extends.rest n none
      ]

  empty_too : (n : ℕ) → IsEmpty v n → IsEmpty w n
  empty_too n empty = λ x. same_names n x ∙ empty x

  -- an object of both
  pub with_same : (k : ℕ) (o r : Option Node) → r ≡ o → Extends (with_node k o v) (with_node k r w)
  with_same k o r same = record {
    kept = λ n.
        elim (n == k) as (λ b. IsSome (if b then o else v n) → (if b then r else w n) ≡ (if b then o else v n)) [
          | true ↦ λ some. same
          | false ↦ λ some. extends.kept n some
        ];
    rest = λ n.
        elim (n == k) as (λ b. (if b then o else v n) ≡ None → IsTrue (is_vacant (if b then r else w n))) [
          | true ↦ λ none. ap is_vacant (same ∙ none)
          | false ↦ λ none. extends.rest n none
        ];
  }

  -- what no name and no descriptor leads to is dropped
  pub sweeps : (table : ℕ → Option Description) → Extends (swept table v) w
  sweeps table = record {
    kept = λ n some. elim (swept_or_stays (is_open table OPEN_FILES n) (v n)) [
      | inl stays ↦ extends.kept n (sym (ap is_some stays) ∙ some) ∙ sym stays
      | inr gone ↦ absurd (false≢true (sym (ap is_some gone.0) ∙ some))
    ];
    rest = λ n none. elim (swept_or_stays (is_open table OPEN_FILES n) (v n)) [
      | inl stays ↦ extends.rest n (sym stays ∙ none)
      | inr gone ↦ ap is_vacant (kept_by is_orphan refl n gone.1) ∙ orphan_vacant (v n) gone.1
    ];
  }
    where
      swept_or_stays : (b : Bool) (o : Option Node) → (swept_node b o ≡ o) ⊎ ((swept_node b o ≡ None) × IsTrue (is_orphan o))
      swept_or_stays b None = inl refl
      swept_or_stays b (Some (directory_node attributes names)) = inl refl
      swept_or_stays true (Some (file_node attributes zero bytes)) = inl refl
      swept_or_stays false (Some (file_node attributes zero bytes)) = inr (refl, refl)
      swept_or_stays b (Some (file_node attributes (suc links) bytes)) = inl refl
      swept_or_stays b (Some (link_node attributes text)) = inl refl

  -- one object, changed in both in the same way
  pub with_both : (k : ℕ) (f : Option Node → Option Node) → f None ≡ None → ((o : Option Node) → IsTrue (is_vacant o) → IsTrue (is_vacant (f o))) → Extends (with_node k (f (v k)) v) (with_node k (f (w k)) w)
  with_both k f none vacant = record {
    kept = λ n.
        elim (n == k) as (λ b. IsSome (if b then f (v k) else v n) → (if b then f (w k) else w n) ≡ (if b then f (v k) else v n)) [
          | true ↦ λ some. elim (some_or_none (v k)) [
            | inl there ↦ ap f (extends.kept k there)
            | inr nothing ↦ absurd (false≢true (sym (ap is_some (ap f nothing ∙ none)) ∙ some))
          ]
          | false ↦ λ some. extends.kept n some
        ];
    rest = λ n.
        elim (n == k) as (λ b. (if b then f (v k) else v n) ≡ None → IsTrue (is_vacant (if b then f (w k) else w n))) [
          | true ↦ λ gone. elim (some_or_none (v k)) [
            | inl there ↦ ap is_vacant (ap f (extends.kept k there) ∙ gone)
            | inr nothing ↦ vacant (w k) (extends.rest k nothing)
          ]
          | false ↦ λ gone. extends.rest n gone
        ];
  }

  same_kind : (n : ℕ) → is_directory_node (w n) ≡ is_directory_node (v n)
  same_kind n =
      elim (some_or_none (v n)) [
        | inl some ↦ ap is_directory_node (extends.kept n some)
        | inr none ↦ vacant_kind (w n) (extends.rest n none) ∙ ap is_directory_node (sym none)
      ]
    where
      vacant_kind : (o : Option Node) → IsTrue (is_vacant o) → is_directory_node o ≡ false
      vacant_kind None vacant = refl
      vacant_kind (Some (directory_node attributes names)) vacant = absurd (false≢true vacant)
      vacant_kind (Some (file_node attributes links bytes)) vacant = refl
      vacant_kind (Some (link_node attributes text)) vacant = refl

  replaces_too : (limits : Limits) (d k : ℕ) (y : Name) (n : ℕ) (o : Option ℕ) → CanReplace limits v d k y n o → CanReplace limits w d k y n o
  replaces_too limits d k y n None (inl same) = inl same
  replaces_too limits d k y n None (inr takes) = inr (takes_too limits k y takes)
  replaces_too limits d k y n (Some m) (other, kind, empty) = (other, same_kind m ∙ kind ∙ sym (same_kind n), empty_too m empty)

  edit_too : (limits : Limits) (edit : Edit) → CanEdit limits v edit → CanEdit limits w edit
  edit_too limits (create number parent made name) can = record {
    low = can.low;
    high = can.high;
    vacant = vacant_too number can.vacant;
    takes = takes_too limits parent name can.takes;
    good = can.good;
  }
  edit_too limits (link number parent name) can = record {
    attributes = can.attributes;
    links = can.links;
    bytes = can.bytes;
    file = extends.kept number (ap is_some can.file) ∙ can.file;
    few = can.few;
    takes = takes_too limits parent name can.takes;
  }
  edit_too limits (remove_name parent name) can = record { number = can.number; there = same_names parent name ∙ can.there; empty = empty_too can.number can.empty }
  edit_too limits (rename parent name new_parent new_name) can = record {
    number = can.number;
    there = same_names parent name ∙ can.there;
    directory = still_directory new_parent can.directory;
    name = can.name;
    outside = subst (λ e. ¬ IsBelow e can.number new_parent) (sym same_entries) can.outside;
    replaces = subst (CanReplace limits w parent new_parent new_name can.number) (sym (same_names new_parent new_name)) (replaces_too limits parent new_parent new_name can.number (entries v new_parent new_name) can.replaces);
  }
  edit_too limits (write number offset bytes) can = (ap is_file_node (file_kept number can.0) ∙ can.0, can.1, can.2, can.3)
  edit_too limits (truncate number size) can = (ap is_file_node (file_kept number can.0) ∙ can.0, can.1)
  edit_too limits (set_file number mode size) can = (ap is_file_node (file_kept number can.0) ∙ can.0, can.1, can.2)
  edit_too limits (change_attributes number permissions modified) can =
      (subst (λ o. TakesMode limits.has_attributes o permissions.mode) (sym (extends.kept number (takes_there limits.has_attributes (v number) permissions.mode can.0))) can.0, can.1)

  pub applies_too : (limits : Limits) (change : Change) → Applies limits v change → Applies limits w change
  applies_too limits change can = record { time = can.time; edit = edit_too limits change.edit can.edit }

  -- a record touches the same in both
  pub touches_too : (edit : Edit) → touches_of edit w ≡ touches_of edit v
  touches_too (create number parent made name) = refl
  touches_too (link number parent name) = refl
  touches_too (remove_name parent name) = ap (λ o. touches_entry Status o (Some parent)) (same_names parent name)
  touches_too (rename parent name new_parent new_name) =
      ap (λ o. touches_move o (entries w new_parent new_name) (Some parent) (Some new_parent)) (same_names parent name)
      ∙ ap (λ o. touches_move (entries v parent name) o (Some parent) (Some new_parent)) (same_names new_parent new_name)
  touches_too (write number offset bytes) = refl
  touches_too (truncate number size) = refl
  touches_too (change_attributes number permissions modified) = refl
  touches_too (set_file number mode size) = refl

  -- behind the last record, both are the same
  pub same_in_the_end : without_orphans w ≡ without_orphans v
  same_in_the_end =
      fun_ext {f = without_orphans w} {g = without_orphans v} (λ n.
      elim (some_or_none (v n)) [
        | inl some ↦ ap (swept_node false) (extends.kept n some)
        | inr none ↦ vacant_gone (w n) (extends.rest n none) ∙ ap (swept_node false) (sym none)
      ])
    where
      vacant_gone : (o : Option Node) → IsTrue (is_vacant o) → swept_node false o ≡ None
      vacant_gone None vacant = refl
      vacant_gone (Some (directory_node attributes names)) vacant = absurd (false≢true vacant)
      vacant_gone (Some (file_node attributes zero bytes)) vacant = refl
      vacant_gone (Some (file_node attributes (suc links) bytes)) vacant = absurd (false≢true vacant)
      vacant_gone (Some (link_node attributes text)) vacant = absurd (false≢true vacant)

-- what changes an object leaves a vacant number vacant
set_vacant : (x : Name) (to : Option ℕ) (o : Option Node) → IsTrue (is_vacant o) → IsTrue (is_vacant (set_name x to o))
set_vacant x to None vacant = refl
set_vacant x to (Some (directory_node attributes names)) vacant = absurd (false≢true vacant)
set_vacant x to (Some (file_node attributes links bytes)) vacant = vacant
set_vacant x to (Some (link_node attributes text)) vacant = vacant

less_vacant : (o : Option Node) → IsTrue (is_vacant o) → IsTrue (is_vacant (with_name_less o))
less_vacant None vacant = refl
less_vacant (Some (directory_node attributes names)) vacant = refl
less_vacant (Some (file_node attributes zero bytes)) vacant = refl
less_vacant (Some (file_node attributes (suc links) bytes)) vacant = absurd (false≢true vacant)
less_vacant (Some (link_node attributes text)) vacant = refl

bytes_vacant : (f : List ℕ → List ℕ) (o : Option Node) → IsTrue (is_vacant o) → IsTrue (is_vacant (with_file_bytes f o))
bytes_vacant f None vacant = refl
bytes_vacant f (Some (directory_node attributes names)) vacant = vacant
bytes_vacant f (Some (file_node attributes zero bytes)) vacant = refl
bytes_vacant f (Some (file_node attributes (suc links) bytes)) vacant = vacant
bytes_vacant f (Some (link_node attributes text)) vacant = vacant

with_name : (v w : Volume) → Extends v w → (d : ℕ) (x : Name) (to : Option ℕ) → Extends (with_entry d x to v) (with_entry d x to w)
with_name v w extends d x to = with_both v w extends d (set_name x to) refl (set_vacant x to)

with_less : (v w : Volume) → Extends v w → (o r : Option ℕ) → r ≡ o → Extends (released o v) (released r w)
with_less v w extends o r same = subst (λ (s : Option ℕ). Extends (released o v) (released s w)) (sym same) (by_name o)
  where
    by_name : (o : Option ℕ) → Extends (released o v) (released o w)
    by_name None = extends
    by_name (Some n) = with_both v w extends n with_name_less refl less_vacant

with_edges : (v w : Volume) → Extends v w → (d : ℕ) (x : Name) (to other : Option ℕ) → other ≡ to → Extends (with_entry d x to v) (with_entry d x other w)
with_edges v w extends d x to other same = subst (λ (o : Option ℕ). Extends (with_entry d x to v) (with_entry d x o w)) (sym same) (with_name v w extends d x to)

edited_too : (v w : Volume) → Extends v w → (limits : Limits) (edit : Edit) → CanEdit limits v edit → Extends (edited edit v) (edited edit w)
edited_too v w extends limits (create number parent made name) can =
    with_name (with_node number (Some (node_of made)) v) (with_node number (Some (node_of made)) w) (with_same v w extends number (Some (node_of made)) (Some (node_of made)) refl) parent name (Some number)
edited_too v w extends limits (link number parent name) can =
    with_name (with_node number (with_name_more (v number)) v) (with_node number (with_name_more (w number)) w)
    (with_same v w extends number (with_name_more (v number)) (with_name_more (w number)) (ap with_name_more (extends.kept number (ap is_some can.file)))) parent name (Some number)
edited_too v w extends limits (remove_name parent name) can =
    with_name (released (entries v parent name) v) (released (entries w parent name) w) (with_less v w extends (entries v parent name) (entries w parent name) (same_names v w extends parent name)) parent name None
edited_too v w extends limits (rename parent name new_parent new_name) can =
    let less = with_less v w extends (entries v new_parent new_name) (entries w new_parent new_name) (same_names v w extends new_parent new_name) in
    with_edges (with_entry parent name None (released (entries v new_parent new_name) v)) (with_entry parent name None (released (entries w new_parent new_name) w))
    (with_name (released (entries v new_parent new_name) v) (released (entries w new_parent new_name) w) less parent name None)
    new_parent new_name (entries v parent name) (entries w parent name) (same_names v w extends parent name)
edited_too v w extends limits (write number offset bytes) can = with_both v w extends number (with_file_bytes (written offset bytes)) refl (bytes_vacant (written offset bytes))
edited_too v w extends limits (truncate number size) can = with_both v w extends number (with_file_bytes (resized size)) refl (bytes_vacant (resized size))
edited_too v w extends limits (change_attributes number permissions modified) can =
    with_both v w extends number (with_node_attributes (set_given permissions modified)) refl (λ o vacant. attributes_vacant (set_given permissions modified) o ∙ vacant)
edited_too v w extends limits (set_file number mode size) can =
    with_both (with_size number size v) (with_size number size w) (with_both v w extends number (with_file_bytes (resized size)) refl (bytes_vacant (resized size))) number (with_node_attributes (set_mode mode)) refl (λ o vacant. attributes_vacant (set_mode mode) o ∙ vacant)

pub applied_too : (v w : Volume) → Extends v w → (limits : Limits) (change : Change) → Applies limits v change → Extends (applied change v) (applied change w)
applied_too v w extends limits change can =
    subst (λ (touches : Touches). Extends (applied change v) (marked_nodes change.time touches (edited change.edit w))) (sym (touches_too v w extends change.edit))
    (extends-marked change.time (touches_of change.edit v) (edited change.edit v) (edited change.edit w) (edited_too v w extends limits change.edit can.edit))

-- the running volume drops at once what the replayed one keeps
pub extends_on : ReplayFollows
extends_on limits v w table change extends can = (
  applies_too v w extends limits change can,
  sweeps (applied change v) (applied change w) (applied_too v w extends limits change can) table,
)

pub ends_same : ReplayEndsSame
ends_same v w extends = same_in_the_end v w extends

edits_cost_the_same : (limits : Limits) (v w : Volume) (edit : Edit) → Extends v w → CanEdit limits v edit → work_by w edit ≡ work_by v edit
edits_cost_the_same limits v w (create number parent made name) extends can = refl
edits_cost_the_same limits v w (link number parent name) extends can = refl
edits_cost_the_same limits v w (remove_name parent name) extends can = refl
edits_cost_the_same limits v w (rename parent name new_parent new_name) extends can = refl
edits_cost_the_same limits v w (write number offset bytes) extends can = ap (λ o. puts_bytes (length (unwrap_or (bytes_of_node o) [])) offset (length bytes)) (file_kept v w extends number can.0)
edits_cost_the_same limits v w (truncate number size) extends can = ap (λ o. changes_size (length (unwrap_or (bytes_of_node o) [])) size) (file_kept v w extends number can.0)
edits_cost_the_same limits v w (change_attributes number permissions modified) extends can = refl
edits_cost_the_same limits v w (set_file number mode size) extends can = ap (λ o. changes_size (length (unwrap_or (bytes_of_node o) [])) size) (file_kept v w extends number can.0)

pub costs_the_same : ReplaysCostTheSame
costs_the_same limits v w change extends can = edits_cost_the_same limits v w change.edit extends can.edit
