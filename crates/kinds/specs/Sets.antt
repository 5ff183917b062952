-- The three single kinds: their letters, tops and sets of codes.
use Rattle.std.specs.Prelude.{◌≡◌, ℕ, ◌/◌, ◌%◌, ◌^◌, ◌≤◌, Bool, true, cond, ◌&&◌, ◌||◌, ◌⊎◌, Some, None, Option, ◌==◌, ◌≢◌, nat_le}
use Rattle.kinds.specs.declared.condition.Condition.{Condition}
use Rattle.kinds.specs.Meaning.{Meaning}

-- one letter, with one top code
abbrev pub only : ℕ → ℕ → ℕ → Option ℕ
only letter top l = cond (l == letter) (Some top) None

-- the letter where the condition is known
abbrev pub where_known : Bool → ℕ → Option ℕ
where_known known letter = cond known (Some letter) None

-- bit k of n is set
abbrev pub Bit : ℕ → ℕ → Type 0
Bit n k = n / 2 ^ k % 2 ≡ 1

-- Numbers: the letter N (78), 0 to 999,999,999. Form B (66) holds a to b, form X (88) all but a, with b = 0; no number is above the top.
abbrev pub number_known : Condition → Bool
number_known q = (nat_le q.a 999999999 && nat_le q.b 999999999) && (q.form == 66 || (q.form == 88 && q.b == 0))

abbrev pub NumberHolds : Condition → ℕ → Type 0
NumberHolds q c =
    (number_known q ≡ true) × (c ≤ 999999999)
    × (((q.form ≡ 66) × (q.a ≤ c) × (c ≤ q.b)) ⊎ ((q.form ≡ 88) × (c ≢ q.a)))

abbrev pub number : Meaning
number = record { tops = only 78 999999999; letters = λ q. where_known (number_known q) 78; holds = NumberHolds }

-- Hours of the week: the letter H (72), 0 to 167 from Monday 0:00. Form W (87) holds the hours whose day is a bit of a and whose hour of the day is a bit of b.
abbrev pub hour_known : Condition → Bool
hour_known q = q.form == 87 && (nat_le q.a 127 && nat_le q.b 16777215)

abbrev pub HourHolds : Condition → ℕ → Type 0
HourHolds q h = (hour_known q ≡ true) × (h ≤ 167) × Bit q.a (h / 24) × Bit q.b (h % 24)

abbrev pub hour : Meaning
hour = record { tops = only 72 167; letters = λ q. where_known (hour_known q) 72; holds = HourHolds }

-- Vehicle classes: the letter C (67), 0 to 23. Form M (77) holds the classes that are bits of a, with b = 0.
abbrev pub class_known : Condition → Bool
class_known q = q.form == 77 && (nat_le q.a 16777215 && q.b == 0)

abbrev pub ClassHolds : Condition → ℕ → Type 0
ClassHolds q c = (class_known q ≡ true) × (c ≤ 23) × Bit q.a c

abbrev pub class : Meaning
class = record { tops = only 67 23; letters = λ q. where_known (class_known q) 67; holds = ClassHolds }
