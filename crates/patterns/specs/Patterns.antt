-- The regexes of filters.rs, in the order of the file, which numbers them from 0 to 20.
-- `word` is with, `exact` without `case_insensitive(true)`. `then` binds closer than `or`.
-- The parts of a regex stand a line each; a line that begins with `or` goes on inside the group that is open above it.
use Rattle.std.specs.Prelude.{List, [], ◌∷◌, ℕ, get_or}
use Rattle.byte_regex.specs.Regex.{Regex, nothing, ◌then◌, ◌or◌, optional, at_start, at_end, word, exact, blank, blanks, dash, dashes, separator, hex_digits}

-- 0: ARTICLE_CLS_REGEX
-- (?:^|[\s_-])(?:article|entry|post|story|single[_-]?post|(?:main[_-])?content|body|text|page)(?:$|[\s_-])
abbrev pub article_cls : Regex
article_cls =
    (at_start or separator)
    then (word "article" or word "entry" or word "post" or word "story" or word "single" then optional dash then word "post"
    or optional (word "main" then dash) then word "content" or word "body" or word "text" or word "page")
    then (at_end or separator)

-- 1: NAV_CLS_REGEX
-- (?:^|\s)(?:(?:l|m|wp|main|site|page|sub|article|global|sticky)[_-]*)?
-- (?:nav(?:igation|bar)?(?:[_-](?:bar|menu|container|wrapper))?|menu(?:[_-]item)?
-- |drop[_-]?down|bread[_-]?crumbs?|links?[_-]?(?:bar|box|list|container|section|wrapper))(?:$|\s)
abbrev pub nav_cls : Regex
nav_cls =
    (at_start or blank)
    then optional ((word "l" or word "m" or word "wp" or word "main" or word "site" or word "page" or word "sub" or word "article" or word "global" or word "sticky") then dashes)
    then (word "nav" then optional (word "igation" or word "bar") then optional (dash then (word "bar" or word "menu" or word "container" or word "wrapper"))
    or word "menu" then optional (dash then word "item")
    or word "drop" then optional dash then word "down"
    or word "bread" then optional dash then word "crumb" then optional (word "s")
    or word "link" then optional (word "s") then optional dash then (word "bar" or word "box" or word "list" or word "container" or word "section" or word "wrapper"))
    then (at_end or blank)

-- 2: RECOMMENDED_CLS_REGEX
-- (?:^|[\s_-])(?:trends|trending|recommended|featured|popular|editors?[_-]picks
-- |related|read-next|related[_-]?(?:links|articles|posts|guides|stories))(?:$|[\s_-])
abbrev pub recommended_cls : Regex
recommended_cls =
    (at_start or separator)
    then (word "trends" or word "trending" or word "recommended" or word "featured" or word "popular" or word "editor" then optional (word "s") then dash then word "picks"
    or word "related" or word "read-next" or word "related" then optional dash then (word "links" or word "articles" or word "posts" or word "guides" or word "stories"))
    then (at_end or separator)

-- 3: LANDMARK_ID_REGEX
-- ^(?:(?:l|wp|global|page|site|full|sticky)[_-]*)?(?:(?:head|foot)(?:er)?|right)$
abbrev pub landmark_id : Regex
landmark_id =
    at_start
    then optional ((word "l" or word "wp" or word "global" or word "page" or word "site" or word "full" or word "sticky") then dashes)
    then ((word "head" or word "foot") then optional (word "er") or word "right")
    then at_end

-- 4: HEADER_CLS_REGEX
-- (?:^|\s)(?:l|m|wp|global|page|site|full|sticky)[_-]*header(?:[_-]?wrap(?:per)?|bar)?(?:$|\s)
abbrev pub header_cls : Regex
header_cls =
    (at_start or blank)
    then (word "l" or word "m" or word "wp" or word "global" or word "page" or word "site" or word "full" or word "sticky")
    then dashes
    then word "header"
    then optional (optional dash then word "wrap" then optional (word "per") or word "bar")
    then (at_end or blank)

-- 5: FOOTER_CLS_REGEX
-- (?:^|\s)(?:(?:global|page|site)[_-]?)?(?:footer|copyright|cookie|consent|legal|fcontainer)
-- (?:[_-](?:wrap(?:per)?|container|banner|notice|bar|consent))?(?:$|\s)
abbrev pub footer_cls : Regex
footer_cls =
    (at_start or blank)
    then optional ((word "global" or word "page" or word "site") then optional dash)
    then (word "footer" or word "copyright" or word "cookie" or word "consent" or word "legal" or word "fcontainer")
    then optional (dash then (word "wrap" then optional (word "per") or word "container" or word "banner" or word "notice" or word "bar" or word "consent"))
    then (at_end or blank)

-- 6: POST_META_CLS_REGEX, whose last `|` is in no group
-- (?:^|[\s_-])(?:(?:post|entry|article(?:page)?|content|story|section)[_-]*(?:text[_-]*)?
-- (?:footer|teaser|meta(?:[_-]?data)?|subline|sidebar|author(?:name)?|published|timestamp|date|posted[_-]?on|info
-- |labels?|tags?|keywords|category)|by[_-]?line|date[_-]?line|author-date|submitted(?:-by)?)
-- |meta[_-]?data(?:$|[\s_-])
abbrev pub post_part : Regex
post_part =
    (word "post" or word "entry" or word "article" then optional (word "page") or word "content" or word "story" or word "section") then dashes then optional (word "text" then dashes)
    then (word "footer" or word "teaser" or word "meta" then optional (optional dash then word "data") or word "subline" or word "sidebar" or word "author" then optional (word "name") or word "published" or word "timestamp" or word "date" or word "posted" then optional dash then word "on" or word "info"
    or word "label" then optional (word "s") or word "tag" then optional (word "s") or word "keywords" or word "category")

abbrev pub post_meta_cls : Regex
post_meta_cls =
    ((at_start or separator) then (post_part or word "by" then optional dash then word "line" or word "date" then optional dash then word "line" or word "author-date" or word "submitted" then optional (word "-by")))
    or (word "meta" then optional dash then word "data" then (at_end or separator))

-- 7: SIDEBAR_CLS_REGEX
-- (?:^|\s)(?:(?:l|wp|global|sticky)[_-]*)?(?:(?:side|sticky)[_-]?(?:bars?|box)
-- |one-third)(?:$|\s)
abbrev pub sidebar_cls : Regex
sidebar_cls =
    (at_start or blank)
    then optional ((word "l" or word "wp" or word "global" or word "sticky") then dashes)
    then ((word "side" or word "sticky") then optional dash then (word "bar" then optional (word "s") or word "box")
    or word "one-third")
    then (at_end or blank)

-- 8: SEARCH_CLS_REGEX
-- (?:^|\s)search(?:[_-]?(?:bar|facility|box))?(?:$|\s)
abbrev pub search_cls : Regex
search_cls =
    (at_start or blank)
    then word "search"
    then optional (optional dash then (word "bar" or word "facility" or word "box"))
    then (at_end or blank)

-- 9: SKIP_LINK_CLS_REGEX
-- (?:^|\s)(?:link[_-]?)?(?:skip(?:[_-]?(?:to|link))?|scroll[_-]?(?:up|down)|next|prev(?:ious)?
-- |permalink|pagination|skip-to-(?:main-)?content)(?:$|\s|[_-]?(?:post|article))
abbrev pub skip_link_cls : Regex
skip_link_cls =
    (at_start or blank)
    then optional (word "link" then optional dash)
    then (word "skip" then optional (optional dash then (word "to" or word "link")) or word "scroll" then optional dash then (word "up" or word "down") or word "next" or word "prev" then optional (word "ious")
    or word "permalink" or word "pagination" or word "skip-to-" then optional (word "main-") then word "content")
    then (at_end or blank or optional dash then (word "post" or word "article"))

-- 10: DISPLAY_CLS_REGEX
-- (?:^|\s)(?:(?:is|visually)[_-])?
-- (?:display-none|hidden|invisible|collapsed|h-0|nocontent|expandable)(?:-xs|-sm|-lg|-2?xl)?(?:$|\s)
abbrev pub display_cls : Regex
display_cls =
    (at_start or blank)
    then optional ((word "is" or word "visually") then dash)
    then (word "display-none" or word "hidden" or word "invisible" or word "collapsed" or word "h-0" or word "nocontent" or word "expandable")
    then optional (word "-xs" or word "-sm" or word "-lg" or word "-" then optional (word "2") then word "xl")
    then (at_end or blank)

-- 11: DISPLAY_CSS_REGEX
-- (?:^|;\s*)(?:display\s?:\s?none|visibility\s?:\s?hidden)(?:$|\s?;)
abbrev pub display_css : Regex
display_css =
    (at_start or word ";" then blanks)
    then (word "display" then optional blank then word ":" then optional blank then word "none"
    or word "visibility" then optional blank then word ":" then optional blank then word "hidden")
    then (at_end or optional blank then word ";")

-- 12: MODAL_CLS_REGEX
-- (?:^|\s)(?:wp-|p-|-l)?(?:modal|popup|lightbox)(?:[_-]*(?:window|pane|box))?(?:$|\s)
abbrev pub modal_cls : Regex
modal_cls =
    (at_start or blank)
    then optional (word "wp-" or word "p-" or word "-l")
    then (word "modal" or word "popup" or word "lightbox")
    then optional (dashes then (word "window" or word "pane" or word "box"))
    then (at_end or blank)

-- 13: GALLERY_CLS_REGEX
-- (?:^|\s)(?:gallery|carousel)(?:$|\s)
abbrev pub gallery_cls : Regex
gallery_cls =
    (at_start or blank)
    then (word "gallery" or word "carousel")
    then (at_end or blank)

-- 14: SIGNIN_CLS_REGEX
-- (?:^|[\s_-])(?:(?:log[_-]?in|sign[_-]?(?:in|up)|account)|user[_-]
-- (?:info|profile|settings|actions))(?:$|[\s_-])
abbrev pub signin_cls : Regex
signin_cls =
    (at_start or separator)
    then ((word "log" then optional dash then word "in" or word "sign" then optional dash then (word "in" or word "up") or word "account")
    or word "user" then dash then (word "info" or word "profile" or word "settings" or word "actions"))
    then (at_end or separator)

-- 15: ADS_CLS_REGEX
-- (?:^|\s)(?:(?:google|wide)[_-]?ads?|ad(?:vert|vertise(?:ment|link)?|$|_[a-f0-9]+)
-- |sponsor(?:ed)?|promoted|paid|(?:wide)?banner|donate)(?:$|[\s_-])
abbrev pub ads_cls : Regex
ads_cls =
    (at_start or blank)
    then ((word "google" or word "wide") then optional dash then word "ad" then optional (word "s")
    or word "ad" then (word "vert" or word "vertise" then optional (word "ment" or word "link") or at_end or word "_" then hex_digits)
    or word "sponsor" then optional (word "ed") or word "promoted" or word "paid" or optional (word "wide") then word "banner" or word "donate")
    then (at_end or separator)

-- 16: SOCIAL_CLS_REGEX
-- (?:^|\s|__|--|mobile-|desktop-|l-|m-|c-)(?:social(?:media|search)?|share(?:daddy)?
-- |syndication|newsletter|sharing|follow|email|likes?|(?:give[_-]?)?feedback|(?:brand[_-])?engagement
-- |facebook|twitter|subscribe|wa|jp|aptf-follow)(?:[_-]?(?:post|links?|section|icons?
-- |btn|buttons?|target))?(?:$|[\s_-])
abbrev pub social_cls : Regex
social_cls =
    (at_start or blank or word "__" or word "--" or word "mobile-" or word "desktop-" or word "l-" or word "m-" or word "c-")
    then (word "social" then optional (word "media" or word "search") or word "share" then optional (word "daddy")
    or word "syndication" or word "newsletter" or word "sharing" or word "follow" or word "email" or word "like" then optional (word "s") or optional (word "give" then optional dash) then word "feedback" or optional (word "brand" then dash) then word "engagement"
    or word "facebook" or word "twitter" or word "subscribe" or word "wa" or word "jp" or word "aptf-follow")
    then optional (optional dash then (word "post" or word "link" then optional (word "s") or word "section" or word "icon" then optional (word "s")
    or word "btn" or word "button" then optional (word "s") or word "target"))
    then (at_end or separator)

-- 17: COMMENTS_CLS_REGEX
-- (?:^|[\s_-])(?:(?:article|user|post)[_-]*)?(?:(?:no[_-]?)?comments?|comment[_-]?list|reply)(?:$|[\s_-])
abbrev pub comments_cls : Regex
comments_cls =
    (at_start or separator)
    then optional ((word "article" or word "user" or word "post") then dashes)
    then (optional (word "no" then optional dash) then word "comment" then optional (word "s") or word "comment" then optional dash then word "list" or word "reply")
    then (at_end or separator)

-- 18: LOGO_CLS_REGEX
-- (?:brand(?:ing)?[_-]*)?logo(?:$|\s)
abbrev pub logo_cls : Regex
logo_cls =
    optional (word "brand" then optional (word "ing") then dashes)
    then word "logo"
    then (at_end or blank)

-- 19: PRINT_CLS_REGEX
-- (?:^|\s)print[_-]
abbrev pub print_cls : Regex
print_cls = (at_start or blank) then word "print" then dash

-- 20: OTHER_JUNK_CLS_REGEX, `case_insensitive(false)`, whose last `|` is in no group
-- (?:^|\s)short-view-count|spinner(?:$|[\s_-])
abbrev pub other_junk_cls : Regex
other_junk_cls =
    ((at_start or blank) then exact "short-view-count")
    or (exact "spinner" then (at_end or separator))

unfoldable pub patterns : List Regex
patterns =
    article_cls ∷ nav_cls ∷ recommended_cls ∷ landmark_id ∷ header_cls ∷ footer_cls ∷ post_meta_cls ∷ sidebar_cls ∷ search_cls ∷ skip_link_cls ∷ display_cls
    ∷ display_css ∷ modal_cls ∷ gallery_cls ∷ signin_cls ∷ ads_cls ∷ social_cls ∷ comments_cls ∷ logo_cls ∷ print_cls ∷ other_junk_cls ∷ []

-- their numbers are 0 to `last_pattern`
abbrev pub last_pattern : ℕ
last_pattern = 20

abbrev pub pattern_count : ℕ
pattern_count = 21

-- the regex of a number
abbrev pub pattern : ℕ → Regex
pattern p = get_or patterns p nothing
