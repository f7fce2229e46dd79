use Rattle.std.proofs.Common.{sym, subst}
use Rattle.gv_model.specs.Parts.{parts}
use Rattle.gv_model.specs.TypeText.{type_at}
use Rattle.dconfdb_values.specs.Listing.{ArePut}
use Rattle.dconfdb_values.proofs.ListingLaws.{put_alike, put_nothing}
use Rattle.dconfdb_values.proofs.listing.put_children.Goals.{in-Some, in_default}
use Rattle.dconfdb_values.proofs.listing.put_children.Goals as goal

pub returns-clause-put : goal.returns-clause-put
returns-clause-put c =
    let all = parts (type_at c.args.type_text.now) c.args.bytes.now in
    elim c.match-view_of.branch [
      | in-Some w ↦
          let typed = w.in-Some.ensures in
          subst (λ new. ArePut c.args.origin all c.args.room.now new) (sym w.room-is) (put_alike c.args.origin _ _ _ _ _ _ _ w.children.ensures typed.at_type typed.bytes w.fill.ensures)
      | in_default w ↦
          subst (λ new. ArePut c.args.origin all c.args.room.now new) (sym w.room-is) (put_nothing c.args.origin _ _ _ w.in_default.ensures.nothing)
    ]
