-- What the definitions say of telling of an object, and of reading a link, by what was found in a volume.
use Rattle.std.proofs.Common.{◌≡◌, ◌≢◌, ℕ, List, [], length, Bool, false, Option, Some, None, IsSome, Result, Ok, Err, refl, sym, ap, subst, ◌∙◌}
use Rattle.std.specs.Prelude.{unwrap_or}
use Rattle.std.proofs.lemmas.Bool.{false≢true}
use Rattle.std.proofs.lemmas.List.FromFn.{length-map-range_with_len}
use Rattle.model.specs.declared.limits.Limits.{Limits}
use Rattle.layout.specs.FileBytes.{byte_in}
use Rattle.layout.specs.Inode.{FitsKind}
use Rattle.layout.specs.Limits.{Sizes}
use Rattle.layout.specs.declared.geometry.TheConstants.{LEAST_BLOCKS, LEAST_HALF, LEAST_INODES}
use Rattle.layout.specs.declared.trees.Layout.TheVariants.{Plain}
use Rattle.layout.specs.declared.inode.Inode.{Inode}
use Rattle.layout.specs.declared.kind.Kind.{Kind as LayoutKind}
use Rattle.layout.specs.declared.kind.Kind.TheVariants as kinds
use Rattle.images.specs.Contents.{StandsAs, content_bytes}
use Rattle.inode.specs.declared.object.Object.{Object as MemoryObject}
use Rattle.inofile.specs.Objects.{IsObject, IsObjectKind}
use Rattle.inofile.specs.Settled.{content_of_object}
use Rattle.model.specs.declared.attributes.Attributes.{Attributes}
use Rattle.model.specs.Laws.{VolumesTellLinks}
use Rattle.model.specs.Outcomes.{Outcome, answers, refuses}
use Rattle.model.specs.Paths.{Path, text_tests}
use Rattle.model.specs.Reading.{stats, reads_link, tells_stat}
use Rattle.model.specs.Room.{nothing}
use Rattle.model.specs.Trees.{Tree, Object, Description}
use Rattle.model.specs.Trees as trees
use Rattle.model.specs.Volumes.{Node, directory_node, file_node, link_node, Volume, attributes_of, bytes_of_node, object_of, tree_of, IsVolume}
use Rattle.model.specs.declared.errno.Errno.{Errno}
use Rattle.model.specs.declared.errno.Errno.TheVariants.{EINVAL}
use Rattle.model.specs.Attributes.{no_attributes}
use Rattle.model.specs.declared.limits.TheConstants.{LINK_MODE}
use Rattle.model.specs.declared.reply.FileType.TheVariants.{File, Dir, Link}
use Rattle.model.specs.declared.reply.Reply.TheVariants as replies
use Rattle.model.specs.declared.reply.Stat.{Stat}
use Rattle.model.proofs.LooseLemmas.{some_same}
use Rattle.paths.specs.Steps.{found_in, text_in}
use Rattle.paths.specs.declared.lookup.Found.{Found}
use Rattle.paths.specs.declared.lookup.Found.TheVariants as found
use Rattle.calls.specs.Leading.{IsLed}
use Rattle.calls.specs.Readlink.{text_reply}
use Rattle.calls.specs.Stat.{IsStatOf, TellsStat, stat_in, stat_reply}
use Rattle.calls.proofs.LeadLaws.{led_some, led_there, led_refused}
use Rattle.model.proofs.OptionLaws.{none_some}

-- the text of the link with this number, or that it is none
abbrev pub TellsText : Volume → ℕ → Result (List ℕ) Errno → Type 0
TellsText v n (Ok text) = (attributes : Attributes) × (v n ≡ Some (link_node attributes text))
TellsText v n (Err errno) = (found_in (v n) ≢ found.Link) × (errno ≡ EINVAL)

-- what is no object isn't there
pub nothing_there : {X : Type 0} (o : Option Node) → IsSome o → ((x : Node) → o ≡ Some x → ⊥) → X
nothing_there None some none = absurd (false≢true some)
nothing_there (Some x) some none = absurd (none x refl)

-- an object of the tree, by that of the volume
pub object_by : (n : ℕ) (v : Volume) (o : Node) (y x : Object) → v n ≡ Some o → object_of n (Some o) ≡ Some y → object_of n (v n) ≡ Some x → y ≡ x
object_by n v o y x is made told = some_same (sym made ∙ sym (ap (object_of n) is) ∙ told)

module _ (v : Volume) (table : ℕ → Option Description) where
  abbrev t : Tree
  t = tree_of v table

  module _ (limits : Limits) (volume : IsVolume limits v) (tell_links : VolumesTellLinks) (n : ℕ) where
    pub told : (o : Node) (x : Object) → v n ≡ Some o → object_of n (v n) ≡ Some x → tells_stat t x (replies.Stat (stat_in n o)) t nothing
    told (directory_node attributes names) x is object =
        subst (λ (y : Object). tells_stat t y (replies.Stat (stat_in n (directory_node attributes names))) t nothing)
        (object_by n v (directory_node attributes names) (trees.directory n) x is refl object)
        (1, refl, (ap (λ (m : ℕ). replies.Stat (record { number = n; kind = Dir; mode = m; links = 1; size = 0 })) (sym (ap (λ (o : Option Node). (unwrap_or (attributes_of o) no_attributes).mode) is)), refl, refl))
    told (file_node attributes links bytes) x is object =
        subst (λ (y : Object). tells_stat t y (replies.Stat (stat_in n (file_node attributes links bytes))) t nothing)
        (object_by n v (file_node attributes links bytes) (trees.file n) x is refl object) (
          links,
          tell_links limits v table n attributes links bytes volume is,
          (
            ap (λ (o : Option Node). replies.Stat (record { number = n; kind = File; mode = (unwrap_or (attributes_of o) no_attributes).mode; links = links; size = length (unwrap_or (bytes_of_node o) []) })) (sym is),
            refl,
            refl,
          ),
        )
    told (link_node attributes text) x is object =
        subst (λ (y : Object). tells_stat t y (replies.Stat (stat_in n (link_node attributes text))) t nothing)
        (object_by n v (link_node attributes text) (trees.symlink n text) x is refl object)
        (1, refl, (refl, refl, refl))

    pub stat_answers : (follow : Bool) (text : List ℕ) (r : Result Stat Errno) → IsLed (text_tests limits text) t v follow text (Ok n) → TellsStat v n r
        → stats limits t follow text (stat_reply r) t nothing
    stat_answers follow text (Ok stat) led (o, is, same) =
        led_there v table follow text (λ p o. tells_stat t o) n (replies.Stat stat) t nothing
        (λ p x stands. subst (λ (s : Stat). tells_stat t x (replies.Stat s) t nothing) (sym same) (told o x is stands.here))
        (text_tests limits text) led
    stat_answers follow text (Err errno) led none = nothing_there (v n) (led_some t v follow text n led.1) none

  pub stat_refused : (limits : Limits) (follow : Bool) (text : List ℕ) (errno : Errno) → IsLed (text_tests limits text) t v follow text (Err errno)
      → stats limits t follow text (replies.Refused errno) t nothing
  stat_refused limits follow text errno led = led_refused v table follow text (λ p o. tells_stat t o) (text_tests limits text) errno led

  -- ---- links

  abbrev there : Path → Object → Outcome
  there p o = elim o as (λ _. Outcome) [
    | trees.symlink n text ↦ answers t (replies.Text text)
    | trees.directory n ↦ refuses t EINVAL
    | trees.file n ↦ refuses t EINVAL
  ]

  no_link : (n : ℕ) (o : Option Node) (p : Path) (x : Object) → found_in o ≢ found.Link → object_of n o ≡ Some x → there p x (replies.Refused EINVAL) t nothing
  no_link n None p x other is = none_some is
  no_link n (Some (directory_node attributes names)) p x other is = subst (λ (y : Object). there p y (replies.Refused EINVAL) t nothing) (some_same is) (refl, refl, refl)
  no_link n (Some (file_node attributes links bytes)) p x other is = subst (λ (y : Object). there p y (replies.Refused EINVAL) t nothing) (some_same is) (refl, refl, refl)
  no_link n (Some (link_node attributes text)) p x other is = absurd (other refl)

  pub link_answers : (limits : Limits) (text : List ℕ) (n : ℕ) (r : Result (List ℕ) Errno) → IsLed (text_tests limits text) t v false text (Ok n) → TellsText v n r
      → reads_link limits t text (text_reply r) t nothing
  link_answers limits text n (Ok told) led (attributes, is) =
      led_there v table false text there n (replies.Text told) t nothing
      (λ p x stands. subst (λ (y : Object). there p y (replies.Text told) t nothing) (object_by n v (link_node attributes told) (trees.symlink n told) x is refl stands.here) (refl, refl, refl))
      (text_tests limits text) led
  link_answers limits text n (Err errno) led (other, is) =
      led_there v table false text there n (replies.Refused errno) t nothing
      (λ p x stands. subst (λ (e : Errno). there p x (replies.Refused e) t nothing) (sym is) (no_link n (v n) p x other stands.here))
      (text_tests limits text) led

  pub link_refused : (limits : Limits) (text : List ℕ) (errno : Errno) → IsLed (text_tests limits text) t v false text (Err errno)
      → reads_link limits t text (replies.Refused errno) t nothing
  link_refused limits text errno led = led_refused v table false text there (text_tests limits text) errno led

-- a number that nothing has
pub none_there : (o : Option Node) → o ≡ None → (x : Node) → o ≡ Some x → ⊥
none_there o none x some = cc

-- the text of what is a link
pub link_text : (o : Option Node) (f : Found) (text : List ℕ) → f ≡ found_in o → f ≡ found.Link → text ≡ text_in o → (attributes : Attributes) × (o ≡ Some (link_node attributes text))
link_text None f text are is told = absurd (no_directory are is)
  where
    no_directory : f ≡ found.Nothing → f ≡ found.Link → ⊥
    no_directory a b = cc
link_text (Some (directory_node attributes names)) f text are is told = absurd (no_directory are is)
  where
    no_directory : f ≡ found.Directory → f ≡ found.Link → ⊥
    no_directory a b = cc
link_text (Some (file_node attributes links bytes)) f text are is told = absurd (no_file are is)
  where
    no_file : f ≡ found.File → f ≡ found.Link → ⊥
    no_file a b = cc
link_text (Some (link_node attributes link)) f text are is told = (attributes, ap (λ (t : List ℕ). Some (link_node attributes t)) (sym told))

-- ---- an object in memory

module _ (disk : ℕ → List ℕ) (inodes : ℕ) (settled : Inode) (o : MemoryObject) (node : Option Node) (is_object : IsObject disk inodes settled o node) (n : ℕ) where
  stands : (kind : LayoutKind) → o.status.kind ≡ kind → StandsAs kind inodes (content_of_object disk o) node
  stands kind is = subst (λ (k : LayoutKind). StandsAs k inodes (content_of_object disk o) node) is is_object.stands

  pub stat_directory : o.status.kind ≡ kinds.Directory → IsStatOf n node (record { number = n; kind = Dir; mode = o.status.attributes.mode; links = 1; size = 0 })
  stat_directory is =
      let d = stands kinds.Directory is in
      (directory_node o.status.attributes d.0, d.2, refl)

  pub stat_file : (size : ℕ) → size ≡ o.file.size → o.status.kind ≡ kinds.File
      → IsStatOf n node (record { number = n; kind = File; mode = o.status.attributes.mode; links = o.status.links; size = size })
  stat_file size same is = (
    file_node o.status.attributes o.status.links (content_bytes (content_of_object disk o)),
    stands kinds.File is,
    ap (λ (s : ℕ). record { number = n; kind = File; mode = o.status.attributes.mode; links = o.status.links; size = s })
        (same ∙ sym (length-map-range_with_len (byte_in (content_of_object disk o).block) 0 o.file.size)),
  )

  pub stat_link : (size : ℕ) → size ≡ o.file.size → o.status.kind ≡ kinds.Link
      → IsStatOf n node (record { number = n; kind = Link; mode = o.status.attributes.mode; links = 1; size = size })
  stat_link size same is =
      let some : Sizes = record { layout = Plain; blocks = LEAST_BLOCKS; inodes = LEAST_INODES; half = LEAST_HALF } in
      let fits = subst (λ (k : LayoutKind). FitsKind k some o.status.attributes o.status.links o.file.size) is (is_object.fits some) in (
        link_node o.status.attributes (content_bytes (content_of_object disk o)),
        stands kinds.Link is,
        ap (λ (m : ℕ). record { number = n; kind = Link; mode = m; links = 1; size = size }) fits.0
            ∙ ap (λ (s : ℕ). record { number = n; kind = Link; mode = LINK_MODE; links = 1; size = s })
            (same ∙ sym (length-map-range_with_len (byte_in (content_of_object disk o).block) 0 o.file.size)),
      )

  pub stat_none : (kind : LayoutKind) → IsObjectKind kind → (kind ≡ kinds.Directory → ⊥) → (kind ≡ kinds.File → ⊥) → (kind ≡ kinds.Link → ⊥) → ⊥
  stat_none kinds.Free is d f l = is
  stat_none kinds.File is d f l = f refl
  stat_none kinds.Directory is d f l = d refl
  stat_none kinds.Link is d f l = l refl
  stat_none kinds.InodeFile is d f l = is
  stat_none kinds.InodeMap is d f l = is
  stat_none kinds.BlockMap is d f l = is
