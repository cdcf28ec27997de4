-- The words of a page, in four languages.
use Rattle.std.specs.Prelude.{ℕ, ◌==◌, ◌&&◌, List, [], codes, if◌then◌else◌, nat_le}
use Rattle.std.specs.Prelude.{encode_utf8_all as utf8}
use Rattle.dw_board.specs.declared.piece.Side.{Side}
use Rattle.dw_board.specs.declared.piece.Side.TheVariants.{White, Black}
use Rattle.dw_page.specs.declared.words.Language.{Language}
use Rattle.dw_page.specs.declared.words.Language.TheVariants.{English, Dutch, French, Russian}
use Rattle.dw_page.specs.declared.words.Phrase.{Phrase}
use Rattle.dw_page.specs.declared.words.Phrase.TheVariants.{Sound, Dual, Cooked, Shorter, NoWin, Tries, Solution}
use Rattle.dw_page.specs.declared.words.Phrase.TheVariants.{Solutions, More, Refused}

-- the name of a language in a page
abbrev pub tag : Language → List ℕ
tag English = codes "en"
tag Dutch = codes "nl"
tag French = codes "fr"
tag Russian = codes "ru"

-- the task of a side, up to the number of moves
unfoldable pub stipulation : Language → Side → List ℕ
stipulation English White = codes "White to play and win in "
stipulation English Black = codes "Black to play and win in "
stipulation Dutch White = codes "Wit aan zet en wint in "
stipulation Dutch Black = codes "Zwart aan zet en wint in "
stipulation French White = codes "Les blancs jouent et gagnent en "
stipulation French Black = codes "Les noirs jouent et gagnent en "
stipulation Russian White = utf8 (codes "Белые начинают и выигрывают в ")
stipulation Russian Black = utf8 (codes "Чёрные начинают и выигрывают в ")

-- the Russian word for moves, in the form for their number
unfoldable pub russian_moves : ℕ → List ℕ
russian_moves n =
    if n == 1 then utf8 (codes " ход")
    else if nat_le 2 n && nat_le n 4 then utf8 (codes " хода")
    else utf8 (codes " ходов")

-- the text after a number of moves: in Russian the word for moves
abbrev pub moves : Language → ℕ → List ℕ
moves English n = []
moves Dutch n = []
moves French n = []
moves Russian n = russian_moves n

-- the phrases in English
unfoldable pub english : Phrase → List ℕ
english Sound = codes "Sound"
english Dual = codes "Dual"
english Cooked = codes "Cooked"
english Shorter = codes "wins in "
english NoWin = codes "No win in "
english Tries = codes "Tries"
english Solution = codes "Solution"
english Solutions = codes "Solutions"
english More = codes "more lines"
english Refused = codes "Refused"

-- the phrases in Dutch
unfoldable pub dutch : Phrase → List ℕ
dutch Sound = codes "Correct"
dutch Dual = codes "Dual"
dutch Cooked = codes "Bijoplossing"
dutch Shorter = codes "wint in "
dutch NoWin = codes "Geen winst in "
dutch Tries = codes "Schijnoplossingen"
dutch Solution = codes "Oplossing"
dutch Solutions = codes "Oplossingen"
dutch More = codes "meer varianten"
dutch Refused = codes "Geweigerd"

-- the phrases in French
unfoldable pub french : Phrase → List ℕ
french Sound = codes "Correct"
french Dual = codes "Dual"
french Cooked = utf8 (codes "Démoli")
french Shorter = codes "gagne en "
french NoWin = codes "Pas de gain en "
french Tries = codes "Essais"
french Solution = codes "Solution"
french Solutions = codes "Solutions"
french More = codes "autres variantes"
french Refused = utf8 (codes "Refusé")

-- the phrases in Russian
unfoldable pub russian : Phrase → List ℕ
russian Sound = utf8 (codes "Корректно")
russian Dual = utf8 (codes "Дуаль")
russian Cooked = utf8 (codes "Побочное решение")
russian Shorter = utf8 (codes "выигрыш в ")
russian NoWin = utf8 (codes "Нет выигрыша в ")
russian Tries = utf8 (codes "Ложные следы")
russian Solution = utf8 (codes "Решение")
russian Solutions = utf8 (codes "Решения")
russian More = utf8 (codes "другие варианты")
russian Refused = utf8 (codes "Отклонено")

-- a phrase in a language
unfoldable pub phrase : Language → Phrase → List ℕ
phrase English what = english what
phrase Dutch what = dutch what
phrase French what = french what
phrase Russian what = russian what
