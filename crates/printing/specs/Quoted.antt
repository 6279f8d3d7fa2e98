-- What is printed of a quote.
--   quote_line p a b c  the line of a quote: the period, the register total, the largest count and the number of values to choose
--   shown_quote s a b c  what is printed of a quote that says s: its line, or the line of its refusal
--   PrintsQuote t old r new  the quote of the text t, printed into a buffer that held `old`
use Rattle.std.specs.Prelude.{◌≡◌, List, [], ◌∷◌, ◌++◌, ℕ}
use Rattle.frame.specs.Frame.{bytes_of, line_of, placed}
use Rattle.netlist.specs.Answer.{Said, value, refused}
use Rattle.quote.specs.Quote.{Quotes}
use Rattle.printing.specs.Shown.{refusal_line, line_in}

-- `09`, period (2), register total (4), largest count (4), number of values to choose (4).
abbrev pub quote_line : ℕ → ℕ → ℕ → ℕ → List ℕ
quote_line period registers largest number = line_of ((9 ∷ []) ++ bytes_of 2 period ++ bytes_of 4 registers ++ bytes_of 4 largest ++ bytes_of 4 number)

abbrev pub shown_quote : Said → ℕ → ℕ → ℕ → List ℕ
shown_quote (value p) registers largest number = quote_line p registers largest number
shown_quote (refused q k p) registers largest number = refusal_line (refused q k p)

-- r is how many bytes of `new` are printed.
pub record PrintsQuote (t old : List ℕ) (r : ℕ) (new : List ℕ) : Type 0 where
  pub said : Said
  pub registers : ℕ
  pub largest : ℕ
  pub number : ℕ
  pub quotes : Quotes t said registers largest number
  pub result : r ≡ line_in (shown_quote said registers largest number) old
  pub buffer : new ≡ placed old 0 (shown_quote said registers largest number)
