-- What holds of a round, whatever is known.
use Rattle.std.proofs.Common.{ℕ, ◌≡◌, ◌⊎◌, inl, inr, Bool, true, false, not, refl, ap, sym, ◌∙◌}
use Rattle.std.specs.Prelude.{◌&&◌, ◌||◌, if◌then◌else◌, ◌==◌, nat_lt, nat_le}
use Rattle.dconf_rounds.specs.declared.rounds.Task.{Task}
use Rattle.dconf_rounds.specs.declared.rounds.Task.TheVariants.{Tell, Watch, Look, Take, Write, Leave, Rest, End, GiveUp}
use Rattle.dconf_rounds.specs.Rounds.{watches, looks_first, takes, is_waiting, writes, leaves, is_left, has_failed, has_work, task_after, task_number, is_over, NothingDueIsPassedOver}

abbrev by : Bool → Bool → Bool → Bool → Bool → Bool → Task → Task
by tells watched looked took wrote left end =
    if tells then Tell else if watched then Watch else if looked then Look else if took then Take else if wrote then Write else if left then Leave else end

abbrev ends_by : Bool → Bool → Bool → Bool → Task
ends_by ends waits left failed = if not ends then Rest else if not waits && not left then End else if not failed then Rest else if waits then GiveUp else End

-- ---- the end

end_is_over : (ends waits left failed : Bool) → is_over (ends_by ends waits left failed) ≡ true
end_is_over false waits left failed = refl
end_is_over true false false failed = refl
end_is_over true false true false = refl
end_is_over true false true true = refl
end_is_over true true left false = refl
end_is_over true true left true = refl

rests : (ends waits left failed : Bool) → ends ≡ false → ends_by ends waits left failed ≡ Rest
rests false waits left failed e = refl
rests true waits left failed e = absurd (let bad : true ≡ false = e in cc)

given_up : (ends waits left failed : Bool) → ends_by ends waits left failed ≡ GiveUp → (ends ≡ true) × (waits ≡ true) × (failed ≡ true)
given_up false waits left failed e = absurd (let bad : Rest ≡ GiveUp = e in cc)
given_up true false false failed e = absurd (let bad : End ≡ GiveUp = e in cc)
given_up true false true false e = absurd (let bad : Rest ≡ GiveUp = e in cc)
given_up true false true true e = absurd (let bad : End ≡ GiveUp = e in cc)
given_up true true left false e = absurd (let bad : Rest ≡ GiveUp = e in cc)
given_up true true left true e = (refl, refl, refl)

ended : (ends waits left failed : Bool) → ends_by ends waits left failed ≡ End → (ends ≡ true) × (waits ≡ false)
ended false waits left failed e = absurd (let bad : Rest ≡ End = e in cc)
ended true false false failed e = (refl, refl)
ended true false true false e = absurd (let bad : Rest ≡ End = e in cc)
ended true false true true e = (refl, refl)
ended true true left false e = absurd (let bad : Rest ≡ End = e in cc)
ended true true left true e = absurd (let bad : GiveUp ≡ End = e in cc)

-- ---- a task

over_by : (a b l t c d : Bool) (end : Task) → is_over end ≡ true → is_over (by a b l t c d end) ≡ not (a || (b || (l || (t || (c || d)))))
over_by true b l t c d end e = refl
over_by false true l t c d end e = refl
over_by false false true t c d end e = refl
over_by false false false true c d end e = refl
over_by false false false false true d end e = refl
over_by false false false false false true end e = refl
over_by false false false false false false end e = e

forward_by : (done : ℕ) (a b l t c d : Bool) (end : Task) → (a ≡ true → nat_lt done 1 ≡ true) → (b ≡ true → nat_lt done 2 ≡ true)
    → (l ≡ true → nat_lt done 3 ≡ true) → (t ≡ true → nat_lt done 4 ≡ true) → (c ≡ true → nat_lt done 5 ≡ true) → (d ≡ true → nat_lt done 6 ≡ true) → is_over end ≡ true
    → is_over (by a b l t c d end) ≡ false → nat_lt done (task_number (by a b l t c d end)) ≡ true
forward_by done true b l t c d end p q r s u v o e = p refl
forward_by done false true l t c d end p q r s u v o e = q refl
forward_by done false false true t c d end p q r s u v o e = r refl
forward_by done false false false true c d end p q r s u v o e = s refl
forward_by done false false false false true d end p q r s u v o e = u refl
forward_by done false false false false false true end p q r s u v o e = v refl
forward_by done false false false false false false end p q r s u v o e = absurd (let bad : true ≡ false = sym o ∙ e in cc)

lives_by : (a b l t c d : Bool) (end : Task) → end ≡ Rest → is_over (by a b l t c d end) ≡ true → by a b l t c d end ≡ Rest
lives_by true b l t c d end r e = absurd (let bad : false ≡ true = e in cc)
lives_by false true l t c d end r e = absurd (let bad : false ≡ true = e in cc)
lives_by false false true t c d end r e = absurd (let bad : false ≡ true = e in cc)
lives_by false false false true c d end r e = absurd (let bad : false ≡ true = e in cc)
lives_by false false false false true d end r e = absurd (let bad : false ≡ true = e in cc)
lives_by false false false false false true end r e = absurd (let bad : false ≡ true = e in cc)
lives_by false false false false false false end r e = r

give_up_is_the_end : (a b l t c d : Bool) (end : Task) → by a b l t c d end ≡ GiveUp → end ≡ GiveUp
give_up_is_the_end true b l t c d end e = absurd (let bad : Tell ≡ GiveUp = e in cc)
give_up_is_the_end false true l t c d end e = absurd (let bad : Watch ≡ GiveUp = e in cc)
give_up_is_the_end false false true t c d end e = absurd (let bad : Look ≡ GiveUp = e in cc)
give_up_is_the_end false false false true c d end e = absurd (let bad : Take ≡ GiveUp = e in cc)
give_up_is_the_end false false false false true d end e = absurd (let bad : Write ≡ GiveUp = e in cc)
give_up_is_the_end false false false false false true end e = absurd (let bad : Leave ≡ GiveUp = e in cc)
give_up_is_the_end false false false false false false end e = e

end_is_the_end : (a b l t c d : Bool) (end : Task) → by a b l t c d end ≡ End → end ≡ End
end_is_the_end true b l t c d end e = absurd (let bad : Tell ≡ End = e in cc)
end_is_the_end false true l t c d end e = absurd (let bad : Watch ≡ End = e in cc)
end_is_the_end false false true t c d end e = absurd (let bad : Look ≡ End = e in cc)
end_is_the_end false false false true c d end e = absurd (let bad : Take ≡ End = e in cc)
end_is_the_end false false false false true d end e = absurd (let bad : Write ≡ End = e in cc)
end_is_the_end false false false false false true end e = absurd (let bad : Leave ≡ End = e in cc)
end_is_the_end false false false false false false end e = e

-- no round ends in a write
no_write : (ends waits left failed : Bool) → ends_by ends waits left failed ≡ Write → ⊥
no_write false waits left failed e = let bad : Rest ≡ Write = e in cc
no_write true false false failed e = let bad : End ≡ Write = e in cc
no_write true false true false e = let bad : Rest ≡ Write = e in cc
no_write true false true true e = let bad : End ≡ Write = e in cc
no_write true true left false e = let bad : Rest ≡ Write = e in cc
no_write true true left true e = let bad : GiveUp ≡ Write = e in cc

write_is_due : (a b l t c d : Bool) (end : Task) → (end ≡ Write → ⊥) → by a b l t c d end ≡ Write → c ≡ true
write_is_due true b l t c d end n e = absurd (let bad : Tell ≡ Write = e in cc)
write_is_due false true l t c d end n e = absurd (let bad : Watch ≡ Write = e in cc)
write_is_due false false true t c d end n e = absurd (let bad : Look ≡ Write = e in cc)
write_is_due false false false true c d end n e = absurd (let bad : Take ≡ Write = e in cc)
write_is_due false false false false true d end n e = refl
write_is_due false false false false false true end n e = absurd (let bad : Leave ≡ Write = e in cc)
write_is_due false false false false false false end n e = absurd (n e)

take_is_due : (a b l t c d : Bool) (end : Task) → (end ≡ Take → ⊥) → by a b l t c d end ≡ Take → t ≡ true
take_is_due true b l t c d end n e = absurd (let bad : Tell ≡ Take = e in cc)
take_is_due false true l t c d end n e = absurd (let bad : Watch ≡ Take = e in cc)
take_is_due false false true t c d end n e = absurd (let bad : Look ≡ Take = e in cc)
take_is_due false false false true c d end n e = refl
take_is_due false false false false true d end n e = absurd (let bad : Write ≡ Take = e in cc)
take_is_due false false false false false true end n e = absurd (let bad : Leave ≡ Take = e in cc)
take_is_due false false false false false false end n e = absurd (n e)

leave_is_due : (a b l t c d : Bool) (end : Task) → (end ≡ Leave → ⊥) → by a b l t c d end ≡ Leave → d ≡ true
leave_is_due true b l t c d end n e = absurd (let bad : Tell ≡ Leave = e in cc)
leave_is_due false true l t c d end n e = absurd (let bad : Watch ≡ Leave = e in cc)
leave_is_due false false true t c d end n e = absurd (let bad : Look ≡ Leave = e in cc)
leave_is_due false false false true c d end n e = absurd (let bad : Take ≡ Leave = e in cc)
leave_is_due false false false false true d end n e = absurd (let bad : Write ≡ Leave = e in cc)
leave_is_due false false false false false true end n e = refl
leave_is_due false false false false false false end n e = absurd (n e)

-- no round ends in a task
no_task : (end task : Task) → is_over end ≡ true → is_over task ≡ false → end ≡ task → ⊥
no_task end task over t e = let bad : true ≡ false = sym over ∙ (ap is_over e ∙ t) in cc

watch_by : (untold soon turned ends : Bool) (l t c d : Bool) (end : Task) → untold ≡ false → soon ≡ true → (turned ≡ true) × (ends ≡ false)
    → by untold (soon && (turned && not ends)) l t c d end ≡ Watch
watch_by false true true false l t c d end u s h = refl
watch_by true soon turned ends l t c d end u s h = absurd (let bad : true ≡ false = u in cc)
watch_by false false turned ends l t c d end u s h = absurd (let bad : false ≡ true = s in cc)
watch_by false true false ends l t c d end u s h = absurd (let bad : false ≡ true = h.0 in cc)
watch_by false true true true l t c d end u s h = absurd (let bad : true ≡ false = h.1 in cc)

-- ---- what is work

works_by : (waits line again : Bool) → waits ≡ true → (waits || (line || again)) ≡ true
works_by true line again w = refl
works_by false line again w = absurd (let bad : false ≡ true = w in cc)

works_on : (waits line again : Bool) → not waits && (line || again) ≡ true → (waits || (line || again)) ≡ true
works_on false line again w = w
works_on true line again w = refl

and_left : (a b : Bool) → a && b ≡ true → a ≡ true
and_left true b e = refl
and_left false b e = e

and_right : (a b : Bool) → a && b ≡ true → b ≡ true
and_right true b e = e
and_right false b e = absurd (let bad : false ≡ true = e in cc)

three : (x : Task) (r : Bool) → (x ≡ Take → r ≡ true) → (x ≡ Write → r ≡ true) → (x ≡ Leave → r ≡ true) → x ≡ Take ⊎ (x ≡ Write ⊎ x ≡ Leave) → r ≡ true
three x r p q s (inl e) = p e
three x r p q s (inr (inl e)) = q e
three x r p q s (inr (inr e)) = s e

-- ---- the law

pub nothing_due_is_passed_over : NothingDueIsPassedOver
nothing_due_is_passed_over done k =
    let a : Bool = nat_lt done 1 && k.has_untold in
    let b : Bool = nat_lt done 2 && watches k in
    let l : Bool = nat_lt done 3 && looks_first k in
    let t : Bool = nat_lt done 4 && takes k in
    let c : Bool = nat_lt done 5 && writes k in
    let d : Bool = nat_lt done 6 && leaves k in
    let end : Task = ends_by k.ends k.waits (is_left k) (has_failed k) in
    let over : is_over end ≡ true = end_is_over k.ends k.waits (is_left k) (has_failed k) in
    let works : k.waits ≡ true → has_work k ≡ true = works_by k.waits k.is_in_line (not (k.again == 0)) in
    record {
      over = over_by a b l t c d end over;
      watched = watch_by a (nat_lt done 2) k.has_turned k.ends l t c d end;
      works = three (task_after done k) (has_work k)
          (λ e. works (and_left k.waits (k.is_in_line || (k.is_asked || nat_le k.again k.moment))
          (and_right (nat_lt done 4) (takes k) (take_is_due a b l t c d end (no_task end Take over refl) e))))
          (λ e. works (and_left k.waits (k.has_asked && not (is_waiting k))
          (and_right (nat_lt done 5) (writes k) (write_is_due a b l t c d end (no_task end Write over refl) e))))
          (λ e. works_on k.waits k.is_in_line (not (k.again == 0))
          (and_right (nat_lt done 6) (leaves k) (leave_is_due a b l t c d end (no_task end Leave over refl) e)));
      forward = forward_by done a b l t c d end (and_left (nat_lt done 1) k.has_untold) (and_left (nat_lt done 2) (watches k))
          (and_left (nat_lt done 3) (looks_first k)) (and_left (nat_lt done 4) (takes k)) (and_left (nat_lt done 5) (writes k))
          (and_left (nat_lt done 6) (leaves k)) over;
      turn = λ e.
          let due : c ≡ true = write_is_due a b l t c d end (no_write k.ends k.waits (is_left k) (has_failed k)) e in
          let both : writes k ≡ true = and_right (nat_lt done 5) (writes k) due in
          let asked : (k.has_asked && not (is_waiting k)) ≡ true = and_right k.waits (k.has_asked && not (is_waiting k)) both in (
            and_left k.waits (k.has_asked && not (is_waiting k)) both,
            and_left k.has_asked (not (is_waiting k)) asked,
            and_right k.has_asked (not (is_waiting k)) asked,
          );
      lives = λ e. lives_by a b l t c d end (rests k.ends k.waits (is_left k) (has_failed k) e);
      gives_up = λ e. given_up k.ends k.waits (is_left k) (has_failed k) (give_up_is_the_end a b l t c d end e);
      ends = λ e. ended k.ends k.waits (is_left k) (has_failed k) (end_is_the_end a b l t c d end e);
    }
