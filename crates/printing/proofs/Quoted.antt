-- What is printed of a quote.
--   prints_quote        what is printed, from how it was put
use Prim.Native.Nat.{ℕ}
use mathlib.Core.Path.{◌≡◌}
use mathlib.Core.List.{List}
use Rattle.frame.specs.Frame.{placed}
use Rattle.netlist.specs.Answer.{Said}
use Rattle.quote.specs.Quote.{Quotes}
use Rattle.printing.specs.Shown.{line_in}
use Rattle.printing.specs.Quoted.{shown_quote, PrintsQuote}

pub prints_quote : (t old new : List ℕ) (r : ℕ) (said : Said) {a b c : ℕ} → Quotes t said a b c → new ≡ placed old 0 (shown_quote said a b c)
    → r ≡ line_in (shown_quote said a b c) old → PrintsQuote t old r new
prints_quote t old new r said {a} {b} {c} quotes put long =
    record { said = said; registers = a; largest = b; number = c; quotes = quotes; result = long; buffer = put }
