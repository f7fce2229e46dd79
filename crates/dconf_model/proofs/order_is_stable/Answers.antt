use Rattle.dconf_model.proofs.OrderLaws.{order_is_stable}
use Rattle.dconf_model.proofs.order_is_stable.Goals as goal

pub returns : goal.returns
returns g c = λ name. order_is_stable name
