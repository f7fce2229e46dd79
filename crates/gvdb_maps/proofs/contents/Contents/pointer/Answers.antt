use Rattle.std.proofs.Common.{rules, ◌<◌, length, get_or, subst}
use Rattle.gvdb_maps.specs.LayoutParts.{CanPointAt}
use Rattle.gvdb_maps.proofs.contents.Contents.pointer.Goals as goal

pub offset_bounds-self-self : goal.offset_bounds-self-self
offset_bounds-self-self c =
    let there = subst (CanPointAt c.args.self c.args.number) c.in-Value.is c.requires.there in
    let within : get_or c.args.self.places.now c.args.number 0 < length c.args.self.pointers.now = there.1 in
    search rules
