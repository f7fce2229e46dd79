use Rattle.dconf_model.proofs.ListingOrder.{listing_is_once_each}
use Rattle.dconf_model.proofs.a_listing_is_in_order.Goals as goal

pub returns : goal.returns
returns c = listing_is_once_each
