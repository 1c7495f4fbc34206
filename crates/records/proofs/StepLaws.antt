-- Steps of prepared changes.
use Rattle.std.proofs.Common.{◌≡◌, ◌≢◌, ◌+◌, ◌≤◌, ℕ, Bool, List, Option, Some, None, IsTrue, ◌||◌, refl, sym, ap, subst, arith}
use Rattle.std.proofs.lemmas.Bool.{false≢true}
use Rattle.layout.specs.Inode.{FitsKind}
use Rattle.layout.specs.Limits.{Sizes}
use Rattle.layout.specs.Trees.{has_attributes}
use Rattle.layout.specs.declared.inode.Inode.{Inode}
use Rattle.layout.specs.declared.kind.Kind.{Kind}
use Rattle.layout.specs.declared.kind.Kind.TheVariants as kinds
use Rattle.model.specs.declared.attributes.Attributes.{Attributes}
use Rattle.model.specs.declared.attributes.Permissions.{Permissions}
use Rattle.model.specs.declared.time.Time.{Time}
use Rattle.model.specs.Attributes.{FitAttributes, set_given, set_mode}
use Rattle.model.specs.Records.{TakesGiven, TakesMode, with_node_attributes, with_node_mode}
use Rattle.model.specs.Volumes.{Node, Volume, is_directory_node, is_file_node}
use Rattle.model.proofs.AttributeLaws.{given_fit, set_fit}
use Rattle.images.specs.Contents.{Content, StandsAs}
use Rattle.inode.specs.declared.object.Object.{Object}
use Rattle.inofile.specs.Inodes.{loaded}
use Rattle.inofile.specs.Objects.{IsObjectIn}
use Rattle.inofile.specs.Room.{memory_room}
use Rattle.images.specs.Sizes.{IsSizedAs, StandsAsIn}
use Rattle.images.specs.Soundness.{Detail, by_bytes, by_sizes}
use Rattle.inofile.proofs.DetailLaws.{HasSizeOf, by_size}
use Rattle.inofile.specs.Settled.{content_of_object}
use Rattle.inofile.specs.Volumes.{IsVolumeIn}
use Rattle.inofile.specs.declared.inode_file.InodeFile.{InodeFile}
use Rattle.records.specs.Contents.{FitsFile}
use Rattle.records.specs.Entering.{FitsObject}
use Rattle.records.specs.Plans.{AreBeside, IsApartFrom}
use Rattle.records.specs.Steps.{Commits, FitsUpdate, IsApart, Steps, StepsSome, TakesSome, Updates, with_node_links}
use Rattle.records.specs.declared.steps.Update.{Update}
use Rattle.records.specs.declared.steps.Update.TheVariants as updates
use Rattle.records.specs.declared.steps.ObjectUpdate.{ObjectUpdate}
use Rattle.records.proofs.KindLaws.{file_stands, is_kind}
use Rattle.records.proofs.StandLaws.{stays_at_hand}

-- ---- an object with other attributes

module _ (inodes : ℕ) (f : Attributes → Attributes) (c : Content) (found : Option Node) where
  abbrev after : Content
  after = record { kind = c.kind; attributes = f c.attributes; links = c.links; size = c.size; block = c.block }

  stands_after : (k : Kind) → StandsAs k inodes c found → StandsAs k inodes after (with_node_attributes f found)
  stands_after kinds.Free stands = ap (with_node_attributes f) stands
  stands_after kinds.File stands = ap (with_node_attributes f) stands
  stands_after kinds.Directory stands = (stands.0, stands.1, ap (with_node_attributes f) stands.2)
  stands_after kinds.Link stands = ap (with_node_attributes f) stands
  stands_after kinds.InodeFile stands = ap (with_node_attributes f) stands
  stands_after kinds.InodeMap stands = ap (with_node_attributes f) stands
  stands_after kinds.BlockMap stands = ap (with_node_attributes f) stands

  sized_after : (k : Kind) → IsSizedAs k inodes c found → IsSizedAs k inodes after (with_node_attributes f found)
  sized_after kinds.File stands = (stands.0, stands.1, stands.2, ap (with_node_attributes f) stands.3)
  sized_after kinds.Link stands = (stands.0, stands.1, ap (with_node_attributes f) stands.2)
  sized_after kinds.Directory stands = (stands.0, stands_after kinds.Directory stands.1)
  sized_after kinds.Free stands = stands_after kinds.Free stands
  sized_after kinds.InodeFile stands = stands_after kinds.InodeFile stands
  sized_after kinds.InodeMap stands = stands_after kinds.InodeMap stands
  sized_after kinds.BlockMap stands = stands_after kinds.BlockMap stands

  in_detail_after : (detail : Detail) (k : Kind) → StandsAsIn detail k inodes c found → StandsAsIn detail k inodes after (with_node_attributes f found)
  in_detail_after by_bytes k stands = stands_after k stands
  in_detail_after by_sizes k stands = sized_after k stands

abbrev pub with_attributes : Object → Attributes → Object
with_attributes o attributes =
    record { status = record { kind = o.status.kind; attributes = attributes; links = o.status.links }; file = o.file; known = o.known }

-- an object in memory with others that fit it
pub attributes_set : (detail : Detail) (disk : ℕ → List ℕ) (inodes : ℕ) (settled : Inode) (o : Object) (found : Option Node) (f : Attributes → Attributes)
    → FitAttributes (has_attributes settled.layout) (f o.status.attributes) → ((s : Sizes) → FitsKind o.status.kind s (f o.status.attributes) o.status.links o.file.size)
    → IsObjectIn detail disk inodes settled o found → IsObjectIn detail disk inodes settled (with_attributes o (f o.status.attributes)) (with_node_attributes f found)
attributes_set detail disk inodes settled o found f fit fits was = record {
  kind = was.kind;
  attributes = fit;
  fits = fits;
  stands = in_detail_after inodes f (content_of_object disk o) found detail o.status.kind was.stands;
  ends = was.ends;
  base = was.base;
  known = was.known;
}

-- what holds of an object holds of what it is
held_so : {X : Type 0} (P : Option Node → Type 0) (found x : Option Node) → found ≡ x → P found → (P x → X) → X
held_so P found x same is then = then (subst P same is)

-- an object that has a mode
abbrev pub HasMode : Option Node → Type 0
HasMode found = IsTrue (is_file_node found || is_directory_node found)

-- the kind of an object that has one allows any
fits_mode : (inodes mode : ℕ) (c : Content) (found : Option Node) → HasMode found → (k : Kind) (s : Sizes) → HasSizeOf k inodes c found → FitsKind k s c.attributes c.links c.size
    → FitsKind k s (set_mode mode c.attributes) c.links c.size
fits_mode inodes mode c found is kinds.Free s stands fits = held_so HasMode found _ stands is (λ has. absurd (false≢true has))
fits_mode inodes mode c found is kinds.File s stands fits = fits
fits_mode inodes mode c found is kinds.Directory s stands fits = fits
fits_mode inodes mode c found is kinds.Link s stands fits = held_so HasMode found _ stands.2 is (λ has. absurd (false≢true has))
fits_mode inodes mode c found is kinds.InodeFile s stands fits = held_so HasMode found _ stands is (λ has. absurd (false≢true has))
fits_mode inodes mode c found is kinds.InodeMap s stands fits = held_so HasMode found _ stands is (λ has. absurd (false≢true has))
fits_mode inodes mode c found is kinds.BlockMap s stands fits = held_so HasMode found _ stands is (λ has. absurd (false≢true has))

-- a file or directory in memory with another mode
pub mode_set : (detail : Detail) (disk : ℕ → List ℕ) (inodes : ℕ) (settled : Inode) (o : Object) (found : Option Node) (mode : ℕ) → mode ≤ 4095 → IsObjectIn detail disk inodes settled o found → HasMode found
    → IsObjectIn detail disk inodes settled (with_attributes o (set_mode mode o.status.attributes)) (with_node_mode mode found)
mode_set detail disk inodes settled o found mode good was is =
    let c = content_of_object disk o in
    attributes_set detail disk inodes settled o found (set_mode mode)
    (set_fit (has_attributes settled.layout) mode o.status.attributes good was.attributes)
    (λ s. fits_mode inodes mode c found is o.status.kind s (by_size detail o.status.kind inodes c found was.stands) (was.fits s)) was

-- the kind of an object allows what it takes
fits_given : (has : Bool) (inodes : ℕ) (c : Content) (found : Option Node) (p : Permissions) (modified : Time) → TakesMode has found p.mode → (k : Kind) (s : Sizes) → HasSizeOf k inodes c found
    → FitsKind k s c.attributes c.links c.size → FitsKind k s (set_given p modified c.attributes) c.links c.size
fits_given has inodes c found p modified takes kinds.Free s stands fits = held_so (λ o. TakesMode has o p.mode) found _ stands takes (λ none. absurd none)
fits_given has inodes c found p modified takes kinds.File s stands fits = fits
fits_given has inodes c found p modified takes kinds.Directory s stands fits = fits
fits_given has inodes c found p modified takes kinds.Link s stands fits = held_so (λ o. TakesMode has o p.mode) found _ stands.2 takes (λ its. (its.1, fits.1, fits.2, fits.3))
fits_given has inodes c found p modified takes kinds.InodeFile s stands fits = held_so (λ o. TakesMode has o p.mode) found _ stands takes (λ none. absurd none)
fits_given has inodes c found p modified takes kinds.InodeMap s stands fits = held_so (λ o. TakesMode has o p.mode) found _ stands takes (λ none. absurd none)
fits_given has inodes c found p modified takes kinds.BlockMap s stands fits = held_so (λ o. TakesMode has o p.mode) found _ stands takes (λ none. absurd none)

-- an object in memory with other permissions and another time of its data
pub given_set : (detail : Detail) (disk : ℕ → List ℕ) (inodes : ℕ) (settled : Inode) (o : Object) (found : Option Node) (p : Permissions) (modified : Time)
    → TakesGiven (has_attributes settled.layout) found p modified → IsObjectIn detail disk inodes settled o found
    → IsObjectIn detail disk inodes settled (with_attributes o (set_given p modified o.status.attributes)) (with_node_attributes (set_given p modified) found)
given_set detail disk inodes settled o found p modified takes was =
    let c = content_of_object disk o in
    let has = has_attributes settled.layout in
    attributes_set detail disk inodes settled o found (set_given p modified)
    (given_fit has p modified o.status.attributes takes.1 was.attributes)
    (λ s. fits_given has inodes c found p modified takes.0 o.status.kind s (by_size detail o.status.kind inodes c found was.stands) (was.fits s)) was

-- a step does the same where its object is the same in memory
pub steps_after : (detail : Detail) (disk : ℕ → List ℕ) (settled : ℕ → Inode) (s t : InodeFile) (v w : Volume) (step : ObjectUpdate) → t.geometry ≡ s.geometry
    → loaded t step.number ≡ loaded s step.number → Steps detail disk settled s v step w → Steps detail disk settled t v step w
steps_after detail disk settled s t v w step same_sizes same steps = (
  steps.0,
  subst (λ (g : Sizes). Updates detail disk g.inodes (settled step.number) (v step.number) (loaded t step.number) step.update steps.0) (sym same_sizes)
      (subst (λ (o : Option Object). Updates detail disk s.geometry.inodes (settled step.number) (v step.number) o step.update steps.0) (sym same) steps.1),
  steps.2,
)

-- ---- counts of names

module _ (inodes links : ℕ) (c : Content) (found : Option Node) (is : IsTrue (is_file_node found)) where
  abbrev counted : Content
  counted = record { kind = c.kind; attributes = c.attributes; links = links; size = c.size; block = c.block }

  fits_counted : (detail : Detail) (k : Kind) (s : Sizes) → links ≤ 1000 → StandsAsIn detail k inodes c found → FitsKind k s c.attributes links c.size
  fits_counted detail k s few stands = subst (λ (x : Kind). FitsKind x s c.attributes links c.size) (sym (is_kind detail k inodes c found stands is)) few

  stands_counted : (k : Kind) → StandsAs k inodes c found → StandsAs k inodes counted (with_node_links links found)
  stands_counted k stands =
      let kind = is_kind by_bytes k inodes c found stands is in
      subst (λ (x : Kind). StandsAs x inodes counted (with_node_links links found)) (sym kind) (ap (with_node_links links) (file_stands k inodes c found stands kind))

  sized_counted : (k : Kind) → IsSizedAs k inodes c found → IsSizedAs k inodes counted (with_node_links links found)
  sized_counted k stands =
      let kind = is_kind by_sizes k inodes c found stands is in
      let held = subst (λ (x : Kind). IsSizedAs x inodes c found) kind stands in
      subst (λ (x : Kind). IsSizedAs x inodes counted (with_node_links links found)) (sym kind) (held.0, held.1, held.2, ap (with_node_links links) held.3)

  in_detail_counted : (detail : Detail) (k : Kind) → StandsAsIn detail k inodes c found → StandsAsIn detail k inodes counted (with_node_links links found)
  in_detail_counted by_bytes k stands = stands_counted k stands
  in_detail_counted by_sizes k stands = sized_counted k stands

-- a file in memory with another count of names
pub links_set : (detail : Detail) (disk : ℕ → List ℕ) (inodes : ℕ) (settled : Inode) (o : Object) (found : Option Node) (links : ℕ) → links ≤ 1000
    → IsObjectIn detail disk inodes settled o found → IsTrue (is_file_node found)
    → IsObjectIn detail disk inodes settled (record { status = record { kind = o.status.kind; attributes = o.status.attributes; links = links }; file = o.file; known = o.known }) (with_node_links links found)
links_set detail disk inodes settled o found links few was is = record {
  kind = was.kind;
  attributes = was.attributes;
  fits = λ s. fits_counted inodes links (content_of_object disk o) found is detail o.status.kind s few was.stands;
  stands = in_detail_counted inodes links (content_of_object disk o) found is detail o.status.kind was.stands;
  ends = was.ends;
  base = was.base;
  known = was.known;
}

-- ---- steps behind another one

-- an object has room for what an update sets where it is the same
fits_same : (o p : Option Object) (n number : ℕ) (u : Update) → IsApart n number u → (number ≢ n → p ≡ o) → FitsUpdate o u → FitsUpdate p u
fits_same o p n number (updates.Set object) apart same fits = tt
fits_same o p n number (updates.Names edit) apart same fits = subst (λ (x : Option Object). FitsObject x edit) (sym (same apart)) fits
fits_same o p n number (updates.Attributes permissions modified) apart same fits = tt
fits_same o p n number (updates.Bytes change mode) apart same fits = subst (λ (x : Option Object). FitsFile x change) (sym (same apart)) fits
fits_same o p n number (updates.Links links) apart same fits = tt

-- where there is no step, nothing is put in force
pub commits_none : (s : InodeFile) → Commits s s None
commits_none s = record {
  geometry = refl;
  keeps = λ n is. is;
  stays = λ n is. is;
  at_hand = tt;
  rest = λ n beside. refl;
  volume = λ {detail} count disk settled v w volume same. subst (λ (x : Volume). IsVolumeIn detail count disk settled s x) (sym same) volume;
  room = λ base count disk settled v w k volume same room. subst (λ (x : Volume). memory_room base s x ≤ memory_room base s v + k) (sym same) (omega arith);
}

module _ {s t : InodeFile} where
  -- memory takes a step, if there is one, behind one that there may be
  pub takes_behind : (other step : Option ObjectUpdate) → Commits s t other → IsApartFrom other step → TakesSome s step → TakesSome t step
  takes_behind other None commits apart takes = tt
  takes_behind None (Some step) commits apart takes = record {
    at_hand = stays_at_hand s t commits.geometry commits.keeps commits.stays step.number takes.at_hand;
    fits = subst (λ (o : Option Object). FitsUpdate o step.update) (sym (commits.rest step.number tt)) takes.fits;
  }
  takes_behind (Some other) (Some step) commits apart takes = record {
    at_hand = stays_at_hand s t commits.geometry commits.keeps commits.stays step.number takes.at_hand;
    fits = fits_same (loaded s step.number) (loaded t step.number) other.number step.number step.update apart (λ ne. commits.rest step.number (λ e. ne (sym e))) takes.fits;
  }

-- and a step, if there is one, does the same
module _ {s t : InodeFile} (detail : Detail) (disk : ℕ → List ℕ) (settled : ℕ → Inode) (v w : Volume) where
  pub steps_behind : (other step : Option ObjectUpdate) → Commits s t other → AreBeside other step → StepsSome detail disk settled s v step w → StepsSome detail disk settled t v step w
  steps_behind other None commits beside steps = steps
  steps_behind None (Some step) commits beside steps = steps_after detail disk settled s t v w step commits.geometry (commits.rest step.number tt) steps
  steps_behind (Some other) (Some step) commits beside steps = steps_after detail disk settled s t v w step commits.geometry (commits.rest step.number (λ e. beside (sym e))) steps
