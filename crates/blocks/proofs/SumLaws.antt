-- The one law over the list of bytes for the two sums: from i on they take the byte at i, and go on from i + 1.
use Rattle.std.proofs.Common.{◌≡◌, ℕ, ◌+◌, ◌%◌, ◌^◌, ◌<◌, List, length, get_or, drop, add-one, drop-cons}
use lib.Seq.{drop-length}
use Rattle.rules.specs.File.{added, sums_from}
use Rattle.rules.specs.declared.Sums.{Sums}

-- a and b after the byte at i give, with the bytes from i + 1 on, what they gave before it with those from i on
pub sums_next :
    (bytes : List ℕ) (i a b : ℕ) {a' b' : ℕ} → i < length bytes →
    a' ≡ (a + get_or bytes i 0) % 2 ^ 16 → b' ≡ (b + a') % 2 ^ 16 →
    sums_from (record { a = a'; b = b' }) (drop (i + 1) bytes) ≡ sums_from (record { a = a; b = b }) (drop i bytes)
unfolding sums_from added
sums_next bytes i a b h ea eb = rw (eb, ea, add-one, drop-cons bytes i 0)

-- at the end nothing is left to add
pub sums-end : (s : Sums) (bytes : List ℕ) (i : ℕ) → i ≡ length bytes → sums_from s (drop i bytes) ≡ s
unfolding sums_from
sums-end s bytes i e = rw (e, drop-length)

-- what the search takes for a sum over the bytes
pub ruleset adding = (sums_next, sums-end)
