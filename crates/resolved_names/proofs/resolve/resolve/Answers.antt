-- The numbers of the names are a renaming.
use Rattle.resolved_names.proofs.Numbers.{all_by_numbers}
use Rattle.resolved_names.proofs.resolve.resolve.Goals as goal

pub returns : goal.returns
returns c = all_by_numbers _ _ _ c.resolve_items.ensures
