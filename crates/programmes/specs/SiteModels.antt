-- What a site over lent slices holds. Assumes nothing.
use Rattle.calendar.specs.Gregorian.{first_day_of, length_of}
use Rattle.programmes.specs.declared.site.Site.{Site}
use Rattle.programmes.specs.Sites.{SiteModel}

abbrev pub site_model : Site → SiteModel
site_model s =
    record {
      regular = s.regular;
      first = first_day_of s.month.year s.month.month;
      days = length_of s.month.year s.month.month;
      off_peak = s.off_peak.now;
      calls = s.calls.now;
    }
