use Rattle.dconf_model.proofs.EmptyStores.{empty_has_nothing}
use Rattle.dconf_model.proofs.StoreValues.{each_value_is_given}
use Rattle.dconf_model.proofs.StoreListings.{each_listing_is_exact}
use Rattle.dconf_model.proofs.a_store_gives_what_was_written.Goals as goal

pub returns : goal.returns
returns c = record { values = each_value_is_given; listings = each_listing_is_exact; none = empty_has_nothing }
