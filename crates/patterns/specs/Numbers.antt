-- The patterns by their numbers.
use Rattle.std.specs.Prelude.{◌≡◌, ℕ, ◌<◌, Result, MatchResult}
use Rattle.patterns.specs.Patterns.{last_pattern}
use Rattle.patterns.specs.declared.NoPattern.{NoPattern}
use Rattle.patterns.specs.declared.Pattern.{Pattern}
use Rattle.patterns.specs.declared.Pattern.TheVariants.{ArticleCls, NavCls, RecommendedCls, LandmarkId, HeaderCls, FooterCls, PostMetaCls, SidebarCls, SearchCls, SkipLinkCls, DisplayCls, DisplayCss, ModalCls, GalleryCls, SigninCls, AdsCls, SocialCls, CommentsCls, LogoCls, PrintCls, OtherJunkCls}

-- the number of a pattern
abbrev pub number_of : Pattern → ℕ
number_of ArticleCls = 0
number_of NavCls = 1
number_of RecommendedCls = 2
number_of LandmarkId = 3
number_of HeaderCls = 4
number_of FooterCls = 5
number_of PostMetaCls = 6
number_of SidebarCls = 7
number_of SearchCls = 8
number_of SkipLinkCls = 9
number_of DisplayCls = 10
number_of DisplayCss = 11
number_of ModalCls = 12
number_of GalleryCls = 13
number_of SigninCls = 14
number_of AdsCls = 15
number_of SocialCls = 16
number_of CommentsCls = 17
number_of LogoCls = 18
number_of PrintCls = 19
number_of OtherJunkCls = 20

-- the result is the pattern with this number, or says that there is none
abbrev pub Numbered : ℕ → Result Pattern NoPattern → Type 0
Numbered number r = MatchResult r (λ p. number_of p ≡ number) (λ e. (e.0 ≡ number) × (last_pattern < number))
