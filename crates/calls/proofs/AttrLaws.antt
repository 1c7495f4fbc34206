-- What the definitions say of telling of an object with its attributes, by what was found in a volume.
use Rattle.std.proofs.Common.{◌≡◌, ℕ, List, ◌++◌, Bool, false, true, Option, Result, Ok, Err, refl, sym, ap, subst, ◌∙◌}
use Rattle.model.specs.declared.attributes.Attributes.{Attributes}
use Rattle.model.specs.declared.limits.Limits.{Limits}
use Rattle.model.specs.declared.errno.Errno.{Errno}
use Rattle.model.specs.declared.errno.Errno.TheVariants.{ENOTSUP}
use Rattle.model.specs.declared.reply.Reply.TheVariants as replies
use Rattle.model.specs.declared.reply.Stat.{Stat}
use Rattle.model.proofs.ObjectLaws.{object_number}
use Rattle.model.specs.Edits.{attributes_at}
use Rattle.model.specs.Laws.{VolumesTellLinks}
use Rattle.model.specs.Paths.{Tests, text_tests}
use Rattle.model.specs.Reading.{attribute_tests, attributes, tells_attributes, tells_stat}
use Rattle.model.specs.Room.{nothing}
use Rattle.model.specs.Stats.{stat_of}
use Rattle.model.specs.Trees.{Tree, Object, Description, number_of_object}
use Rattle.model.specs.Volumes.{Volume, IsVolume, tree_of}
use Rattle.calls.specs.Attributes.{TellsAttributes, attributes_reply}
use Rattle.calls.specs.Leading.{IsLed}
use Rattle.calls.proofs.AttributeLaws.{attributes_passed, attributes_refused, led_same}
use Rattle.calls.proofs.LeadLaws.{led_some, led_there, led_refused}
use Rattle.calls.proofs.StatLaws.{nothing_there, told}
use Rattle.calls.proofs.TestedLaws.{tested_some}

-- what `stat` tells, beside the attributes
pub with_attributes : (t : Tree) (x : Object) (stat : Stat) (a : Attributes) → tells_stat t x (replies.Stat stat) t nothing → a ≡ attributes_at t (number_of_object x)
    → tells_attributes t x (replies.Attributes stat a) t nothing
with_attributes t x stat a (links, has, told) is =
    let same : replies.Stat stat ≡ replies.Stat (stat_of t x links) = told.0 in
    let e : stat ≡ stat_of t x links = cc in
    (links, has, ((λ i. replies.Attributes (e i) (is i)), refl, refl))

module _ (v : Volume) (table : ℕ → Option Description) (limits : Limits) where
  abbrev t : Tree
  t = tree_of v table

  abbrev all_tests : List ℕ → Tests
  all_tests text = attribute_tests limits ++ text_tests limits text

  pub attr_not_kept : (follow : Bool) (text : List ℕ) → limits.has_attributes ≡ false → attributes limits t follow text (replies.Refused ENOTSUP) t nothing
  attr_not_kept follow text none = tested_some t (all_tests text) _ ENOTSUP (attributes_refused limits (text_tests limits text) none)

  module _ (has : limits.has_attributes ≡ true) where
    pub attr_refused : (follow : Bool) (text : List ℕ) (errno : Errno) → IsLed (text_tests limits text) t v follow text (Err errno)
        → attributes limits t follow text (replies.Refused errno) t nothing
    attr_refused follow text errno led =
        led_refused v table follow text (λ p o. tells_attributes t o) (all_tests text) errno
        (led_same (text_tests limits text) (all_tests text) t v follow text (Err errno) (attributes_passed limits (text_tests limits text) has) led)

    pub attr_answers : IsVolume limits v → VolumesTellLinks → (n : ℕ) (follow : Bool) (text : List ℕ) (r : Result (Stat × Attributes) Errno) → IsLed (text_tests limits text) t v follow text (Ok n)
        → TellsAttributes v n r → attributes limits t follow text (attributes_reply r) t nothing
    attr_answers volume tell_links n follow text (Ok x) led ((o, is, same), kept) =
        led_there v table follow text (λ p o. tells_attributes t o) n (replies.Attributes x.0 x.1) t nothing
        (λ p y stands. with_attributes t y x.0 x.1 (subst (λ (s : Stat). tells_stat t y (replies.Stat s) t nothing) (sym same) (told v table limits volume tell_links n o y is stands.here))
        (kept ∙ ap (attributes_at t) (sym (object_number n (v n) y stands.here))))
        (all_tests text) (led_same (text_tests limits text) (all_tests text) t v follow text (Ok n) (attributes_passed limits (text_tests limits text) has) led)
    attr_answers volume tell_links n follow text (Err errno) led none = nothing_there (v n) (led_some t v follow text n led.1) none
