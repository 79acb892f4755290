-- A set without a task is no larger, so the test keeps both laws. Assumes nothing.
use Rattle.std.specs.Prelude.{◌≡◌, ℕ, zero, suc, ◌+◌, ◌*◌, ◌/◌, ◌%◌, ◌<◌, ◌≤◌, true, length, nat_le}
use Rattle.std.proofs.Common.{ap, inl, inr, arith}
use Rattle.std.proofs.lemmas.Bool.{leb-true, le-leb}
use Rattle.tasks.specs.Sets.{excluding, members_from, members}
use Rattle.tasks.proofs.Sets.{excluding_zero, excluding_suc}
use Rattle.tasks.proofs.Members.{parity, members_odd, members_even}
use Rattle.schedulability.specs.Laws.{Raise, Removal}
use Rattle.schedulability.specs.Proper.{guarded}
use Rattle.schedulability.specs.Guards.{guarded_raise, guarded_removal}
use Rattle.own_test.specs.Few.{few}

-- the lowest bit counts with the members of the half
halved : (k n h : ℕ) → length (members_from k (suc n) h) ≡ length (members_from (k + 1) n (h / 2)) + h % 2
halved k n h = elim (parity h) [ inl e ↦ omega (arith, ap length (members_odd k n h e)) | inr e ↦ omega (arith, ap length (members_even k n h e)) ]

-- the same where the half q and the bit r are known
joined : (k n h q r : ℕ) → h ≡ q * 2 + r → r < 2 → length (members_from k (suc n) h) ≡ length (members_from (k + 1) n q) + r
joined k n h q r e l =
    let half : h / 2 ≡ q = omega arith in
    omega (arith, halved k n h, ap (λ x. length (members_from (k + 1) n x)) half)

fewer_from : (k n h j : ℕ) → length (members_from k n (excluding h j)) ≤ length (members_from k n h)
unfolding members_from
fewer_from k zero h j = omega arith
fewer_from k (suc n) h zero = omega (arith, halved k n h, joined k n (excluding h 0) (h / 2) 0 (excluding_zero h) (omega arith))
fewer_from k (suc n) h (suc j) = omega (arith, halved k n h, joined k n (excluding h (suc j)) (excluding (h / 2) j) (h % 2) (excluding_suc h j) (omega arith), fewer_from (k + 1) n (h / 2) j)

pub fewer : (h j : ℕ) → length (members (excluding h j)) ≤ length (members h)
fewer = fewer_from 0 32

stays_few : (most h j : ℕ) → nat_le (length (members h)) most ≡ true → nat_le (length (members (excluding h j))) most ≡ true
stays_few most h j y = le-leb _ _ (omega (arith, leb-true _ _ y, fewer h j))

pub few_raise : (most : ℕ) → Raise (guarded (few most))
few_raise most = guarded_raise (few most) (λ t k h j _. stays_few most h j)

pub few_removal : (most : ℕ) → Removal (guarded (few most))
few_removal most = guarded_removal (few most) (λ t u k h j _ _ _. stays_few most h j)
