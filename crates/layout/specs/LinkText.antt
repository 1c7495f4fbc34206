-- The texts of links. What they and names are stands with the paths.
pub use Rattle.model.specs.Paths.{IsLinkText}
