use Rattle.std.proofs.Common.{◌≡◌, ◌<◌, ◌≤◌, ◌+◌, ◌-◌, ℕ, List, ◌++◌, Some, None, length, arith, subst, sym, ◌∙◌, ap}
use Rattle.std.specs.Prelude.{take, drop}
use Rattle.std.proofs.lemmas.List.{length-append, length-drop, length-take-le, drop_at, drop-drop}
use borrow.Author.Tests.{eqb-true, eq-eqb}
use borrow.Rule.Slice.PartMut.{put_mid, post_of, same_len_mid}
use Rattle.dconf_model.specs.Names.{HasName}
use Rattle.dconf_model.specs.Table.{key, item}
use Rattle.gvdb_format.specs.Tables.{region}
use Rattle.gvdb_format.proofs.NameWalks.{never, LeadsTo, no_way, is_as_long, joined_name, only_name, leads_more}
use Rattle.gvdb_format.proofs.raw_table.RawTable.write_name.Goals as goal

-- a key that was put before the end
put_before : (start end : ℕ) (room own : List ℕ) → start ≤ end → end ≤ length room → drop start (put_mid start (end - start) room own) ≡ own ++ drop end room
put_before start end room own le inside =
    let reach : start ≤ length room = omega (arith, le, inside) in
    let ends : start + (end - start) ≡ end = omega (arith, le) in
    drop_at (take start room) (own ++ post_of start (end - start) room) start (length-take-le start room reach)
    ∙ ap (λ (l : List ℕ). own ++ l) (drop-drop (end - start) start room ∙ ap (λ n. drop n room) ends)

pub returns-in_default-clause-fits : goal.returns-in_default-clause-fits
returns-in_default-clause-fits c =
    never (λ h. no_way (region c.args.self) c.args.i c.loop-link.at _ h.0 c.loop-link.invariant.walked c.in_default.ensures.none h.1)

pub returns-in_default-checked_sub-clause-fits : goal.returns-in_default-checked_sub-clause-fits
returns-in_default-checked_sub-clause-fits c =
    let same = ap (λ (l : List ℕ). length l) c.in-Some.ensures.some.2 in
    let long : c.loop-link.end < length c.in-Some.link.key.now = omega (arith, c.in_default-checked_sub.ensures) in
    let inv = c.loop-link.invariant in
    never (λ h.
    omega (
      arith,
      same,
      long,
      h.2,
      inv.inside,
      inv.size,
      length-drop c.loop-link.end c.loop-link.room,
      is_as_long (region c.args.self) c.args.i c.loop-link.at _ h.0 inv.walked h.1,
    ))

pub returns-in_default-parent-clause-fits : goal.returns-in_default-parent-clause-fits
returns-in_default-parent-clause-fits c =
    let t = region c.args.self in
    let some = c.in-Some.ensures.some in
    let inv = c.loop-link.invariant in
    let own = key t c.loop-link.at in
    let back = drop c.loop-link.end c.loop-link.room in
    let start = c.in-Some-checked_sub.ensures in
    let orphan : (item t c.loop-link.at).parent ≡ None = sym some.1 ∙ c.in_default-parent.is in
    let same = ap (λ (l : List ℕ). length l) some.2 in
    let kept = length-drop c.loop-link.end c.loop-link.room in
    let all = length-append own back in (
      λ e. (
        own ++ back,
        joined_name t c.args.i c.loop-link.at back inv.walked some.0.here orphan,
        omega (arith, eqb-true _ _ e, start.0, start.1, same, kept, all, inv.inside, inv.size),
      ),
      λ h.
          let only = ap (λ (l : List ℕ). length l) (only_name t c.args.i c.loop-link.at back h.0 inv.walked some.0.here orphan h.1) in
          eq-eqb _ _ (omega (arith, only, h.2, start.0, start.1, same, kept, all, inv.inside, inv.size)),
    )

pub returns-in_default-parent-clause-name : goal.returns-in_default-parent-clause-name
returns-in_default-parent-clause-name c =
    let t = region c.args.self in
    let some = c.in-Some.ensures.some in
    let inv = c.loop-link.invariant in
    let orphan : (item t c.loop-link.at).parent ≡ None = sym some.1 ∙ c.in_default-parent.is in
    let named = joined_name t c.args.i c.loop-link.at _ inv.walked some.0.here orphan in
    let start = c.in-Some-checked_sub.ensures in
    let le : c.in-Some-checked_sub.start ≤ c.loop-link.end = omega (arith, start.0, start.1) in
    let k = c.loop-link.end - c.in-Some-checked_sub.start in
    let room = put_mid c.in-Some-checked_sub.start k c.loop-link.room c.copy_from_slice.new.self in
    let put = put_before c.in-Some-checked_sub.start c.loop-link.end c.loop-link.room c.copy_from_slice.new.self le inv.inside in
    let is = put ∙ ap (λ (l : List ℕ). l ++ drop c.loop-link.end c.loop-link.room) (c.copy_from_slice.ensures.after ∙ some.2) in
    λ e. subst (HasName t c.args.i) (sym is ∙ ap (λ n. drop n room) (eqb-true _ _ e)) named

pub loop-link-preserved : goal.loop-link-preserved
loop-link-preserved c =
    let t = region c.args.self in
    let some = c.in-Some.ensures.some in
    let inv = c.loop-link.invariant in
    let own = key t c.loop-link.at in
    let start = c.in-Some-checked_sub.ensures in
    let up : (item t c.loop-link.at).parent ≡ Some c.in-Some-parent.parent = sym some.1 ∙ c.in-Some-parent.is in
    let same = ap (λ (l : List ℕ). length l) some.2 in
    let le : c.in-Some-checked_sub.start ≤ c.loop-link.end = omega (arith, start.0, start.1) in
    let put = put_before c.in-Some-checked_sub.start c.loop-link.end c.loop-link.room c.copy_from_slice.new.self le inv.inside in
    let is = put ∙ ap (λ (l : List ℕ). l ++ drop c.loop-link.end c.loop-link.room) (c.copy_from_slice.ensures.after ∙ some.2) in
    let size = same_len_mid c.in-Some-checked_sub.start (c.loop-link.end - c.in-Some-checked_sub.start) c.loop-link.room c.copy_from_slice.new.self c.copy_from_slice.ensures.len in
    record {
      walked = subst (LeadsTo t c.args.i c.in-Some-parent.parent) (sym is) (leads_more t c.args.i c.loop-link.at c.in-Some-parent.parent _ inv.walked some.0.here up (some.0.takes c.in-Some-parent.parent up));
      inside = omega (arith, le, size, inv.inside);
      size = size ∙ inv.size;
    }
