-- One call of the outside.
pub use Rattle.chk_site.specs.Once.{MadeOnce}
