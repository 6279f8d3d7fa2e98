-- What `list` puts out, into a buffer that held `old`: the bytes that are printed of the text t, r of them.
use Rattle.std.specs.Prelude.{◌≡◌, List, ◌++◌, ℕ, ◌≤◌, length, drop}
use Rattle.printing.specs.Listed.{Prints}

pub record Lists (t old : List ℕ) (r : ℕ) (new : List ℕ) : Type 0 where
  pub printed : List ℕ
  pub prints : Prints t printed
  pub count : r ≡ length printed
  pub bytes : new ≡ printed ++ drop (length printed) old
  pub room : length printed ≤ length old
