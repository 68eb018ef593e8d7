-- The numbers of the patterns are below their count.
use Prim.Native.Nat.{◌<◌}
use lib.Dec.{lit<}
use Rattle.patterns.specs.Numbers.{number_of}
use Rattle.patterns.specs.Patterns.{pattern_count}
use Rattle.patterns.specs.declared.Pattern.{Pattern}
use Rattle.patterns.specs.declared.Pattern.TheVariants.{ArticleCls, NavCls, RecommendedCls, LandmarkId, HeaderCls, FooterCls, PostMetaCls, SidebarCls, SearchCls, SkipLinkCls, DisplayCls, DisplayCss, ModalCls, GalleryCls, SigninCls, AdsCls, SocialCls, CommentsCls, LogoCls, PrintCls, OtherJunkCls}

pub number_lt : (p : Pattern) → number_of p < pattern_count
number_lt ArticleCls = lit< tt
number_lt NavCls = lit< tt
number_lt RecommendedCls = lit< tt
number_lt LandmarkId = lit< tt
number_lt HeaderCls = lit< tt
number_lt FooterCls = lit< tt
number_lt PostMetaCls = lit< tt
number_lt SidebarCls = lit< tt
number_lt SearchCls = lit< tt
number_lt SkipLinkCls = lit< tt
number_lt DisplayCls = lit< tt
number_lt DisplayCss = lit< tt
number_lt ModalCls = lit< tt
number_lt GalleryCls = lit< tt
number_lt SigninCls = lit< tt
number_lt AdsCls = lit< tt
number_lt SocialCls = lit< tt
number_lt CommentsCls = lit< tt
number_lt LogoCls = lit< tt
number_lt PrintCls = lit< tt
number_lt OtherJunkCls = lit< tt
