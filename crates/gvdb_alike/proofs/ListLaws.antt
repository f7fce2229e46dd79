-- Lists of the same bytes hold the same numbers.
use Rattle.std.proofs.Common.{ℕ, ◌+◌, ◌-◌, ◌*◌, ◌/◌, ◌<◌, ◌≡◌, ◌∙◌, List, length, take, drop, ap, sym, arith, length-take, length-drop}
use Rattle.gv_model.specs.BasicValue.{number_in}
use Rattle.dconf_model.specs.Table.{Table, HasBytes, bytes_of, item}
use Rattle.dconf_model.specs.Sound.{list_length, listed}
use Rattle.gvdb_check.proofs.ListNumbers.{number_at}

size_of : (t : Table) (i : ℕ) → HasBytes t i → length (bytes_of t i) ≡ (item t i).end - (item t i).start
size_of t i valid =
    let start = (item t i).start in
    let end = (item t i).end in
    omega (arith, length-take (end - start) (drop start t.file), length-drop start t.file, valid.ordered, valid.inside)

same_size : (t u : Table) (i : ℕ) → HasBytes t i → HasBytes u i → bytes_of t i ≡ bytes_of u i → (item t i).end - (item t i).start ≡ (item u i).end - (item u i).start
same_size t u i here there same = sym (size_of t i here) ∙ (ap (λ (l : List ℕ). length l) same ∙ size_of u i there)

pub same_length : (t u : Table) (i : ℕ) → HasBytes t i → HasBytes u i → bytes_of t i ≡ bytes_of u i → list_length t i ≡ list_length u i
same_length t u i here there same = ap (λ n. n / 4) (same_size t u i here there same)

-- the four bytes of a number, cut out of the list's
cut_number : (t : Table) (i k : ℕ) → k < list_length t i → number_in (take 4 (drop (4 * k) (bytes_of t i))) ≡ listed t i k
cut_number t i k within =
    let start = (item t i).start in
    let end = (item t i).end in
    let rest : end - start ≡ 4 * k + (4 + (end - start - (4 * k + 4))) = omega (arith, within) in
    number_at t.file start end k (end - start - (4 * k + 4)) rest

pub same_number : (t u : Table) (i k : ℕ) → HasBytes t i → HasBytes u i → bytes_of t i ≡ bytes_of u i → k < list_length t i → listed t i k ≡ listed u i k
same_number t u i k here there same within =
    sym (cut_number t i k within)
    ∙ (ap (λ (l : List ℕ). number_in (take 4 (drop (4 * k) l))) same
    ∙ cut_number u i k (omega (arith, within, same_size t u i here there same)))
