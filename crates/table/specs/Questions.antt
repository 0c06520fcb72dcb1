-- The numbers of the questions (SPEC 4.2). Question 15 was struck.
use Rattle.std.specs.Prelude.{ℕ}
use Rattle.table.specs.declared.Question.{Question}
use Rattle.table.specs.declared.Question.TheVariants as questions

abbrev pub number_of : Question → ℕ
number_of questions.Empty = 1
number_of questions.TooLong = 2
number_of questions.NotWhole = 3
number_of questions.WrongByte3 = 4
number_of questions.TooManyChildren = 5
number_of questions.WrongFirstChild = 6
number_of questions.WrongValue = 7
number_of questions.WrongTotal = 8
number_of questions.TooDeep = 9
number_of questions.ShortBuffer = 10
number_of questions.WrongFlag = 11
number_of questions.NoMaxTree = 12
number_of questions.NoMinTree = 13
number_of questions.UnequalValues = 14
number_of questions.LowercaseLetter = 16
number_of questions.NoMaxLeaf = 17
number_of questions.TooLarge = 18
number_of questions.NoLeaf = 19
number_of questions.OutOfRange = 20
number_of questions.NoValue = 21
number_of questions.WrongWidth = 22
number_of questions.WrongDepth = 23
