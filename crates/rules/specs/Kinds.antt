-- Gate kinds by their numbers.
--   kind_number k       the number of the kind k
--   Decodes n r         r is the kind of number n, or n is no kind's
use Rattle.std.specs.Prelude.{◌≡◌, ℕ, ◌<◌, Result, Ok, Err}
use Rattle.rules.specs.declared.kind.Kind.{Kind}
use Rattle.rules.specs.declared.kind.Kind.TheVariants.{Input, Output, Buffer, Inverter, And, Or, Xor, Nand, Nor, Xnor, Selector}
use Rattle.rules.specs.declared.kind.UnknownKind.{UnknownKind}

abbrev pub kind_number : Kind → ℕ
kind_number Input = 0
kind_number Output = 1
kind_number Buffer = 2
kind_number Inverter = 3
kind_number And = 4
kind_number Or = 5
kind_number Xor = 6
kind_number Nand = 7
kind_number Nor = 8
kind_number Xnor = 9
kind_number Selector = 10

-- "3 now begins above kind 0A."
abbrev pub Decodes : ℕ → Result Kind UnknownKind → Type 0
Decodes n (Ok k) = kind_number k ≡ n
Decodes n (Err e) = (e.0 ≡ n) × (10 < n)
