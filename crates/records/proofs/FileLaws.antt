-- Files of a volume, and their counts of names.
use Rattle.std.proofs.Common.{◌≡◌, ◌≢◌, ◌≤◌, ℕ, ◌-◌, ◌+◌, ◌==◌, ◌↔◌, ◌++◌, drop, zero, suc, List, [], ◌∷◌, length, map, Option, Some, None, IsTrue, IsSome, true, false, inl, inr, refl, sym, ap, subst, ◌∙◌, arith}
use Rattle.std.proofs.lemmas.Bool.{false≢true}
use Rattle.std.proofs.lemmas.Bool.Decides.{nat_tests}
use Rattle.model.specs.declared.limits.Limits.{Limits}
use Rattle.layout.specs.Directory.{IsEntry}
use Rattle.layout.specs.declared.inode.Inode.{Inode}
use Rattle.layout.specs.declared.kind.Kind.{Kind}
use Rattle.layout.specs.declared.kind.Kind.TheVariants as kinds
use Rattle.model.specs.declared.attributes.Attributes.{Attributes}
use Rattle.model.specs.Paths.{Name, IsName}
use Rattle.model.specs.Records as records
use Rattle.model.specs.Records.{IsEmpty, edited, work_by}
use Rattle.model.specs.Room.{cost}
use Rattle.model.specs.Volumes.{Node, Volume, directory_node, file_node, link_node, entries, is_directory_node, is_file_node, with_entry, with_name_less, with_name_more, with_node}
use Rattle.images.specs.Contents.{Content}
use Rattle.layout.specs.DirectoryNames.{NameMap}
use Rattle.dirs.specs.Directory.{with_name}
use Rattle.dirs.specs.Listings.{IsListingOfNames}
use Rattle.dirs.specs.Room.{piece_count}
use Rattle.dirs.specs.declared.edit.Edit.{Edit}
use Rattle.inode.specs.Edges.{written_list}
use Rattle.layout.specs.Bytes.{zeros}
use Rattle.inode.specs.declared.object.Object.{Object}
use Rattle.inofile.specs.Inodes.{loaded}
use Rattle.inofile.specs.declared.inode_file.InodeFile.{InodeFile}
use Rattle.images.specs.Soundness.{Detail}
use Rattle.inofile.proofs.DetailLaws.{HasSizeOf}
use Rattle.records.specs.Planning.{IsKnownVolume}
use Rattle.records.proofs.DetailLaws.{graph_of, numbers_of}
use Rattle.records.specs.Entering.{EditsIn, with_node_names}
use Rattle.records.specs.Moving.{IsSomeAlone}
use Rattle.records.specs.Plans.{AreBeside, DoesEditIn, IsApartFrom, IsPlanReady, KnowsEdited}
use Rattle.records.specs.Room.{SomeRoom, StepRoom, UpdateRoom, step_costs}
use Rattle.records.specs.Steps.{FitsUpdate, IsAlone, IsApart, IsAtHand, IsBeside, IsFileWithLinks, IsSomeApart, IsSomeAtHand, Steps, StepsSome, TakesSome, TakesUpdate, Updates, with_node_links}
use Rattle.records.specs.declared.steps.ObjectUpdate.{ObjectUpdate}
use Rattle.records.specs.declared.steps.Update.{Update}
use Rattle.records.specs.declared.steps.Update.TheVariants as updates
use Rattle.records.proofs.EnterLaws.{names_set, put_volume}
use Rattle.model.proofs.ObjectLaws.{node_other}
use Rattle.model.proofs.OptionLaws.{none_some}

-- what isn't a file is gone with its name
pub gone_with_name : (k : Kind) (inodes : ℕ) (c : Content) (o : Option Node) → HasSizeOf k inodes c o → (k ≡ kinds.File → ⊥) → with_name_less o ≡ None
gone_with_name kinds.Free inodes c o stands other = ap with_name_less stands
gone_with_name kinds.File inodes c o stands other = absurd (other refl)
gone_with_name kinds.Directory inodes c o stands other = ap with_name_less stands.2
gone_with_name kinds.Link inodes c o stands other = ap with_name_less stands.2
gone_with_name kinds.InodeFile inodes c o stands other = ap with_name_less stands
gone_with_name kinds.InodeMap inodes c o stands other = ap with_name_less stands
gone_with_name kinds.BlockMap inodes c o stands other = ap with_name_less stands

-- ---- files by their count of names

pub file_is : (links : ℕ) (o : Option Node) → IsFileWithLinks links o → IsTrue (is_file_node o)
file_is links o is = ap is_file_node is.2

pub same_links : (attributes old : Attributes) (links others : ℕ) (bytes more : List ℕ) → Some (file_node attributes links bytes) ≡ Some (file_node old others more) → links ≡ others
same_links attributes old links others bytes more e = cc

pub less_links : (links : ℕ) (o : Option Node) → IsFileWithLinks links o → with_name_less o ≡ with_node_links (links - 1) o
less_links links o is = ap with_name_less is.2 ∙ sym (ap (with_node_links (links - 1)) is.2)

pub more_links : (links : ℕ) (o : Option Node) → IsFileWithLinks links o → with_node_links (links + 1) o ≡ with_name_more o
more_links links o is = ap (with_node_links (links + 1)) is.2 ∙ sym (ap with_name_more is.2)

-- a file's number isn't a directory's
pub file_apart : (v : Volume) (n d : ℕ) → IsTrue (is_file_node (v n)) → IsTrue (is_directory_node (v d)) → n ≢ d
file_apart v n d file directory same = apart (v d) (subst (λ k. IsTrue (is_file_node (v k))) same file) directory
  where
    apart : (o : Option Node) → IsTrue (is_file_node o) → IsTrue (is_directory_node o) → ⊥
    apart None file directory = false≢true directory
    apart (Some (directory_node attributes names)) file directory = false≢true file
    apart (Some (file_node attributes links bytes)) file directory = false≢true directory
    apart (Some (link_node attributes text)) file directory = false≢true directory

-- a file of a volume has a number of the image, and a name can stand for it
pub file_entry : (detail : Detail) (limits : Limits) (v : Volume) (n : ℕ) (x : Name) → IsKnownVolume detail limits v → IsTrue (is_file_node (v n)) → IsName x → IsEntry limits.inodes (record { number = n; name = x })
file_entry detail limits v n x volume file name =
    elim (numbers_of detail limits v volume n (some (v n) file)) [
      | inl root ↦ absurd (file_apart v n 3 file (graph_of detail limits v volume).naming.root root)
      | inr within ↦ record { ordinary = within.0; below = within.1; name = name }
    ]
  where
    some : (o : Option Node) → IsTrue (is_file_node o) → IsSome o
    some None is = absurd (false≢true is)
    some (Some node) is = refl

-- ---- names

pub same_some : {m n : ℕ} → Some m ≡ Some n → m ≡ n
same_some e = cc

-- an object without names isn't the directory of its name
pub empty_apart : (v : Volume) (n d : ℕ) (x : Name) → IsEmpty v n → entries v d x ≡ Some n → n ≢ d
empty_apart v n d x empty is same = none_some (sym (subst (λ k. IsEmpty v k) same empty x) ∙ is)

-- ---- steps

beside_none : (step : Option ObjectUpdate) → AreBeside step None
beside_none None = tt
beside_none (Some step) = tt

-- no step depends on anything
pub apart_none : (step : Option ObjectUpdate) → IsApartFrom step None
apart_none None = tt
apart_none (Some step) = tt

-- memory has room for a step, and for another one, if there is one
pub ready_two : {s : InodeFile} {first : ObjectUpdate} {next : Option ObjectUpdate} → TakesUpdate s first.number first.update → TakesSome s next → IsSomeApart first.number next
    → IsPlanReady s (record { first = first; next = next; last = None })
ready_two {next = next} takes more apart = record { first = takes; next = more; last = tt; next_apart = apart; last_apart = tt; apart = apart_none next }

module _ {detail : Detail} {disk : ℕ → List ℕ} {settled : ℕ → Inode} {s : InodeFile} {v : Volume} {change : records.Edit} where
  -- a step, and another one, if there is one, do what an edit says
  pub does_two : (first : ObjectUpdate) (next : Option ObjectUpdate) (between : Volume) (k l : ℕ) → Steps detail disk settled s v first between → StepsSome detail disk settled s between next (edited change v)
      → IsBeside first.number next → StepRoom s first k → SomeRoom s next l → k + l ≤ cost step_costs (work_by v change) → KnowsEdited s change
      → DoesEditIn detail disk settled s v (record { first = first; next = next; last = None }) change
  does_two first next between k l steps more apart room rest within knows = record {
    between = between;
    second = edited change v;
    first = steps;
    next = more;
    last = refl;
    next_beside = apart;
    last_beside = tt;
    beside = beside_none next;
    firsts = k;
    nexts = l;
    lasts = 0;
    first_room = room;
    next_room = rest;
    last_room = tt;
    within = omega (arith, within);
    knows = knows;
  }

  -- so do a change of a directory's names and then an update of another object
  pub does_both : (d n : ℕ) (x : Name) (to : Option ℕ) (edit : Edit) (update : Update) (node : Option Node) (k : ℕ) → n ≢ d
      → EditsIn disk s.geometry.inodes (with_name x to) (v d) (loaded s d) edit → piece_count edit ≤ 1
      → Updates detail disk s.geometry.inodes (settled n) (v n) (loaded s n) update node → UpdateRoom (loaded s n) update k
      → edited change v ≡ with_entry d x to (with_node n node v) → 7 + k ≤ cost step_costs (work_by v change) → KnowsEdited s change
      → DoesEditIn detail disk settled s v (record { first = record { number = d; update = updates.Names edit }; next = Some (record { number = n; update = update }); last = None }) change
  does_both d n x to edit update node k apart edits few does room same within knows =
      let names : Option Node = with_node_names (with_name x to) (v d) in
      let both : edited change v ≡ with_node n node (with_node d names v) =
      same ∙ sym (put_volume n d x to node v apart) ∙ ap (λ (o : Option Node). with_node n node (with_node d o v)) (sym (names_set x to (v d))) in
      does_two (record { number = d; update = updates.Names edit }) (Some (record { number = n; update = update })) (with_node d names v) 7 k (names, (with_name x to, edits, refl), refl)
      (node, subst (λ (o : Option Node). Updates detail disk s.geometry.inodes (settled n) o (loaded s n) update node) (sym (node_other d n names v apart)) does, both)
      apart (omega (arith, few)) room within knows

-- ---- updates that depend on nothing else

alone_fits : (o : Option Object) (u : Update) → IsAlone u → FitsUpdate o u
alone_fits o (updates.Set object) alone = tt
alone_fits o (updates.Names edit) alone = absurd alone
alone_fits o (updates.Attributes permissions modified) alone = tt
alone_fits o (updates.Bytes change mode) alone = absurd alone
alone_fits o (updates.Links links) alone = tt

pub alone_takes : (s : InodeFile) (number : ℕ) (u : Update) → IsAlone u → IsAtHand s number → TakesUpdate s number u
alone_takes s number u alone is = record { at_hand = is; fits = alone_fits (loaded s number) u alone }

pub alone_some : (s : InodeFile) (step : Option ObjectUpdate) → IsSomeAlone step → IsSomeAtHand s step → TakesSome s step
alone_some s None alone is = tt
alone_some s (Some step) alone is = alone_takes s step.number step.update alone is

pub alone_apart : (n number : ℕ) (u : Update) → IsAlone u → IsApart n number u
alone_apart n number (updates.Set object) alone = tt
alone_apart n number (updates.Names edit) alone = absurd alone
alone_apart n number (updates.Attributes permissions modified) alone = tt
alone_apart n number (updates.Bytes change mode) alone = absurd alone
alone_apart n number (updates.Links links) alone = tt

pub alone_some_apart : (n : ℕ) (step : Option ObjectUpdate) → IsSomeAlone step → IsSomeApart n step
alone_some_apart n None alone = tt
alone_some_apart n (Some step) alone = alone_apart n step.number step.update alone

-- ---- listings

none_listed : (names : NameMap) → IsListingOfNames names [] → (x : Name) (o : Option ℕ) → names x ≡ o → o ≡ None
none_listed names listing x None is = refl
none_listed names listing x (Some n) is =
    let listed = (listing.whole x).1 (subst (λ (o : Option ℕ). IsSome o) (sym is) refl) in
    absurd (omega (arith, listed.1))

some_listed : (n : ℕ) → (suc n == 0) ≡ false
some_listed n = grind (arith, nat_tests)

first_listed : (names : NameMap) (a : Name) (rest : List Name) → IsListingOfNames names (a ∷ rest) → names a ≡ None → ⊥
first_listed names a rest listing none = false≢true (subst (λ (o : Option ℕ). IsSome o) none ((listing.whole a).0 (0, omega arith, refl)))

-- an object has no names just where none are listed
pub empty_listing : {X : Type 0} (f : X → Name) (raw : List X) (names : NameMap) → IsListingOfNames names (map f raw) → ((length raw == 0) ≡ true) ↔ ((x : Name) → names x ≡ None)
empty_listing f [] names listing = (λ is x. none_listed names listing x (names x) refl, λ none. refl)
empty_listing f (a ∷ raw) names listing = (
  λ is. absurd (false≢true (sym (some_listed (length raw)) ∙ is)),
  λ none. absurd (first_listed names (f a) (map f raw) listing (none (f a))),
)

-- ---- bytes

drop_none : (n : ℕ) → ◌≡◌ {A = List ℕ} (drop n []) []
drop_none zero = refl
drop_none (suc n) = refl

append_none : (xs : List ℕ) → xs ++ [] ≡ xs
append_none [] = refl
append_none (x ∷ xs) = ap (λ (l : List ℕ). x ∷ l) (append_none xs)

-- what is written into a file without bytes is all that it has
pub written_first : (text : List ℕ) → written_list [] 0 text ≡ text
unfolding zeros
written_first text = ap (λ (l : List ℕ). text ++ l) (drop_none (0 + length text)) ∙ append_none text
