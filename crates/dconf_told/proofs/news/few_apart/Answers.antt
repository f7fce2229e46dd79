use Rattle.std.proofs.Common.{rules, subst₂}
use Rattle.gvdb_alike.specs.NamesAlike.{AreNamedAlike}
use Rattle.gvdb_alike.specs.ValuesAlike.{AreAlikeOutside}
use Rattle.gvdb_read.specs.Tables.{region}
use Rattle.gvdb_read.specs.declared.table.Table.{Table}
use Rattle.dconf_differences.proofs.TwinLaws.{outside_of, outside_turned}
use Rattle.dconf_layers.specs.Entries.{entries_left}
use Rattle.dconf_told.proofs.TwinsLaws.{rows_asked}
use Rattle.dconf_told.proofs.news.few_apart.Goals as goal

pub returns-clause-of_one : goal.returns-clause-of_one
returns-clause-of_one c =
    let items = c.in_ok-items.items in
    let named = subst₂ (λ (a b : Table). AreNamedAlike (region a) (region b)) c.table.ensures c.table-2.ensures (c.differing_items.ensures.named (search rules)) in
    let alike = subst₂ (λ (a b : Table). AreAlikeOutside (region a) (region b) items.first items.end) c.table.ensures c.table-2.ensures c.in_ok-items.ensures.alike in
    (rows_asked c.args.one c.args.other items.first items.end (entries_left c.entries_in-ones.result) (outside_of c.args.one c.args.other items.first items.end named alike) c.entries_in-ones.ensures).0

pub returns-clause-one : goal.returns-clause-one
returns-clause-one c =
    let items = c.in_ok-items.items in
    let named = subst₂ (λ (a b : Table). AreNamedAlike (region a) (region b)) c.table.ensures c.table-2.ensures (c.differing_items.ensures.named (search rules)) in
    let alike = subst₂ (λ (a b : Table). AreAlikeOutside (region a) (region b) items.first items.end) c.table.ensures c.table-2.ensures c.in_ok-items.ensures.alike in
    (rows_asked c.args.one c.args.other items.first items.end (entries_left c.entries_in-ones.result) (outside_of c.args.one c.args.other items.first items.end named alike) c.entries_in-ones.ensures).1

pub returns-clause-of_other : goal.returns-clause-of_other
returns-clause-of_other c =
    let items = c.in_ok-items.items in
    let named = subst₂ (λ (a b : Table). AreNamedAlike (region a) (region b)) c.table.ensures c.table-2.ensures (c.differing_items.ensures.named (search rules)) in
    let alike = subst₂ (λ (a b : Table). AreAlikeOutside (region a) (region b) items.first items.end) c.table.ensures c.table-2.ensures c.in_ok-items.ensures.alike in
    let outside = outside_turned c.args.one c.args.other items.first items.end named (outside_of c.args.one c.args.other items.first items.end named alike) in
    (rows_asked c.args.other c.args.one items.first items.end (entries_left c.entries_in-others.result) outside c.entries_in-others.ensures).0

pub returns-clause-other : goal.returns-clause-other
returns-clause-other c =
    let items = c.in_ok-items.items in
    let named = subst₂ (λ (a b : Table). AreNamedAlike (region a) (region b)) c.table.ensures c.table-2.ensures (c.differing_items.ensures.named (search rules)) in
    let alike = subst₂ (λ (a b : Table). AreAlikeOutside (region a) (region b) items.first items.end) c.table.ensures c.table-2.ensures c.in_ok-items.ensures.alike in
    let outside = outside_turned c.args.one c.args.other items.first items.end named (outside_of c.args.one c.args.other items.first items.end named alike) in
    (rows_asked c.args.other c.args.one items.first items.end (entries_left c.entries_in-others.result) outside c.entries_in-others.ensures).1
