-- Why bytes were not read as a bundle.
use Rattle.mrdt_model.specs.declared.errors.Unread.{Unread}
use Rattle.mrdt_model.specs.declared.errors.Unread.TheVariants as unread
use Rattle.branch_bundle.specs.declared.errors.BundleRefused.{BundleRefused}
use Rattle.branch_bundle.specs.declared.errors.BundleRefused.TheVariants.{BadBundle, Memory}

-- what is no bundle has no item that could be told
abbrev pub bundle_refused : Unread → BundleRefused
bundle_refused unread.NotCanonical = BadBundle 0
bundle_refused unread.Memory = Memory
