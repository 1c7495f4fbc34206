-- The mode of links.
use Rattle.std.specs.Prelude.{◌≡◌, Option, Some}
use Rattle.model.specs.Volumes.{Node, link_node}
use Rattle.model.specs.declared.limits.TheConstants.{LINK_MODE}

-- a link's mode is 0777
abbrev pub HasLinkMode : Option Node → Type 0
HasLinkMode (Some (link_node attributes text)) = attributes.mode ≡ LINK_MODE
HasLinkMode other = Unit {0}
