mod NoCookies
